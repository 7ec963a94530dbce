use Rattle.std.proofs.Common.{◌≡◌, filter, map}
use Rattle.std.specs.Map.Iter.{deref}
use Rattle.sg_waits.specs.Waits.{status_at, waits}
use Rattle.sg_waits.proofs.woken.Woken.of.Given as goal

abbrev pub invariant-loop-unit : goal.invariant-loop-unit
invariant-loop-unit l = l.units.items ≡ filter (λ u. waits (status_at l.table u)) (map deref l.yielded)
