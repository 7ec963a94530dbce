use Rattle.std.proofs.Common.{◌==◌}
use Rattle.sg_unit.proofs.Examples.{handed_first, handed_second}
use Rattle.sg_unit.proofs.tests.a_maker_makes_two_scopes.Goals as goal

pub next-requires-2 : goal.next-requires-2
next-requires-2 g c = handed_first (λ p d. p == d) (λ a b. a == b) 7

pub next-requires-3 : goal.next-requires-3
next-requires-3 g c = handed_second (λ p d. p == d) (λ a b. a == b) 7
