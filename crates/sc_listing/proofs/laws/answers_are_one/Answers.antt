use Rattle.sc_listing.proofs.OneText.{one_text}
use Rattle.sc_listing.proofs.laws.answers_are_one.Goals as goal

pub returns : goal.returns
returns c = one_text
