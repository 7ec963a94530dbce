use Rattle.std.proofs.Common.{◌≡◌, fold, take}
use Rattle.sg_waits.specs.Waits.{set_running}
use Rattle.sg_waits.proofs.waits.Waits.wake.Given as goal

abbrev pub invariant-loop-unit : goal.invariant-loop-unit
invariant-loop-unit l = l.self ≡ fold set_running l.initial.self (take l.unit-index l.list)
