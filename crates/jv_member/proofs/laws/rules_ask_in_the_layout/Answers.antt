use Rattle.jv_member.proofs.Bounds.{signatures_stay_in}
use Rattle.jv_member.proofs.laws.rules_ask_in_the_layout.Goals as goal

pub returns : goal.returns
returns c = signatures_stay_in
