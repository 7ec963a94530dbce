use Rattle.std.proofs.Common.{ℕ, ◌<◌}
use Rattle.sg_order.specs.Order.{RowHas}
use Rattle.sg_order.proofs.order.Order.new.Given as goal

abbrev pub invariant-loop-i : goal.invariant-loop-i
invariant-loop-i l = (k : ℕ) → k < l.i → RowHas l.rows k k → ⊥
