use Rattle.std.proofs.Common.{arith}
use Rattle.sg_order.proofs.StrictLemmas.{Precedes-rises}
use Rattle.sg_order.proofs.laws.rising_pairs_are_strict.Goals as goal

pub returns : goal.returns
returns c = λ pairs rank rises m p. omega (arith, Precedes-rises pairs rank rises m m p)
