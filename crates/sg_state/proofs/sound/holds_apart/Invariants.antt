use Rattle.std.proofs.Common.{drop, map}
use Rattle.sg_base.specs.List.{IsDistinct}
use Rattle.sg_state.proofs.sound.holds_apart.Given as goal

abbrev pub invariant-loop-i : goal.invariant-loop-i
invariant-loop-i l = IsDistinct (map (λ k. k.1) (drop l.i l.holds)) → IsDistinct (map (λ k. k.1) l.holds)
