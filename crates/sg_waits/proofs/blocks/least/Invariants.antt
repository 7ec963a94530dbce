use Rattle.std.proofs.Common.{◌≡◌, ℕ, ◌*◌, ◌<◌}
use Rattle.sg_waits.specs.declared.status.Status.TheVariants.{Runs}
use Rattle.sg_waits.specs.Waits.{status_at}
use Rattle.sg_waits.proofs.blocks.least.Given as goal

abbrev pub invariant-loop-block : goal.invariant-loop-block
invariant-loop-block l = (v : ℕ) → v < 256 * l.block → status_at l.units v ≡ Runs → ⊥
