use Rattle.jv_lex.proofs.Rising.{tokens_rise}
use Rattle.jv_lex.proofs.laws.tokens_rise_by_place.Goals as goal

pub returns : goal.returns
returns c = tokens_rise
