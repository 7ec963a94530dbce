use Rattle.std.proofs.Common.{◌≡◌, replicate}
use Rattle.sg_waits.specs.declared.status.Status.TheVariants.{Runs}
use Rattle.sg_waits.proofs.units.running.Given as goal

abbrev pub invariant-loop-unit : goal.invariant-loop-unit
invariant-loop-unit l = l.list.items ≡ replicate l._unit Runs
