use Rattle.jv_grammar.proofs.Deep.{one_first_deep, shallow_or_deep}
use Rattle.jv_grammar.proofs.laws.first_deep_is_one.Goals as goal

pub returns : goal.returns
returns c = record { one = one_first_deep; either = shallow_or_deep }
