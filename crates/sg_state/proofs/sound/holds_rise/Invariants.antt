use Rattle.std.proofs.Common.{◌≡◌, ℕ, ◌+◌, ◌<◌, get_or}
use Rattle.std.specs.declared.cmp.Ordering.TheVariants.{Less}
use Rattle.sg_base.specs.declared.scope.Scope.{Scope}
use Rattle.sg_base.specs.Scope.{scope_cmp}
use Rattle.sg_state.proofs.sound.holds_rise.Given as goal

abbrev pub invariant-loop-i : goal.invariant-loop-i
invariant-loop-i l = (k : ℕ) (d : ℕ × Scope) → k + 1 < l.i → scope_cmp (get_or l.holds k d).1 (get_or l.holds (k + 1) d).1 ≡ Less
