use Rattle.jv_grammar.proofs.NoEffect.{beginnings_are_told_apart}
use Rattle.jv_grammar.proofs.laws.beginnings_are_told_apart.Goals as goal

pub returns : goal.returns
returns c = beginnings_are_told_apart
