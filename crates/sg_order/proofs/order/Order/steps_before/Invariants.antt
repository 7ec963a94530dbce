use Rattle.std.proofs.Common.{◌↔◌, drop}
use Rattle.sg_order.specs.Path.{IsPathBefore}
use Rattle.sg_order.specs.Order.{precedes}
use Rattle.sg_order.proofs.order.Order.steps_before.Given as goal

abbrev pub invariant-loop-i : goal.invariant-loop-i
invariant-loop-i l = (IsPathBefore (precedes l.self) l.p l.q) ↔ (IsPathBefore (precedes l.self) (drop l.i l.p) (drop l.i l.q))
