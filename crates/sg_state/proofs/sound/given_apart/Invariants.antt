use Rattle.std.proofs.Common.{drop, map}
use Rattle.sg_base.specs.List.{IsDistinct}
use Rattle.sg_state.proofs.sound.given_apart.Given as goal

abbrev pub invariant-loop-i : goal.invariant-loop-i
invariant-loop-i g l = IsDistinct (map (λ p. p.0) (drop l.i l.given)) → IsDistinct (map (λ p. p.0) l.given)
