use Rattle.jv_grammar.proofs.Shallow.{front_is_shallow}
use Rattle.jv_grammar.proofs.laws.fronts_are_shallow.Goals as goal

pub returns : goal.returns
returns c = front_is_shallow
