use Rattle.std.proofs.Common.{◌≡◌, ℕ, ◌<◌, ◌≤◌}
use Rattle.sg_waits.specs.declared.status.Status.TheVariants.{Runs}
use Rattle.sg_waits.specs.Waits.{status_at}
use Rattle.sg_waits.proofs.blocks.first_in.Given as goal

abbrev pub invariant-loop-unit : goal.invariant-loop-unit
invariant-loop-unit l = (v : ℕ) → l.from ≤ v → v < l.unit → status_at l.units v ≡ Runs → ⊥
