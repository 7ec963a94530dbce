use Rattle.std.proofs.Common.{refl, inr, arith}
use Rattle.jv_tree.proofs.laws.types_are_told_apart.Goals as goal

pub returns : goal.returns
returns c = λ at. ((tt, omega arith), (λ t. absurd (let h = t.1 in omega arith)), (λ t. t.0), inr (refl, refl))
