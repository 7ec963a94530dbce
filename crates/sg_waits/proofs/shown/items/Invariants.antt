use Rattle.std.proofs.Common.{◌≡◌}
use Rattle.sg_waits.specs.Shown.{items_below}
use Rattle.sg_waits.proofs.shown.items.Given as goal

abbrev pub invariant-loop-unit : goal.invariant-loop-unit
invariant-loop-unit l = l.items.items ≡ items_below l.units l.least.entries l.unit
