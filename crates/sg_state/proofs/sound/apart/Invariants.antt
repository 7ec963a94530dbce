use Rattle.std.proofs.Common.{drop, map}
use Rattle.sg_base.specs.List.{IsDistinct}
use Rattle.sg_state.proofs.sound.apart.Given as goal

abbrev pub invariant-loop-i : goal.invariant-loop-i
invariant-loop-i l = IsDistinct (map (λ s. s) (drop l.i l.scopes)) → IsDistinct (map (λ s. s) l.scopes)
