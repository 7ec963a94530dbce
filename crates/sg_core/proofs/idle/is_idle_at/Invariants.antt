use Rattle.std.proofs.Common.{ℕ, ◌<◌}
use Rattle.sg_state.specs.Held.{HoldsRow}
use Rattle.sg_core.proofs.idle.is_idle_at.Given as goal

abbrev pub invariant-loop-label : goal.invariant-loop-label
invariant-loop-label g l = (u k : ℕ) → k < l.label → HoldsRow l.held u l.s k → ⊥
