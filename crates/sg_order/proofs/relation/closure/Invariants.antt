use Rattle.std.proofs.Common.{◌≡◌, ◌↔◌, length, take}
use Rattle.sg_base.specs.declared.mark.Mark.{Mark}
use Rattle.sg_order.specs.Mark.{Precedes}
use Rattle.sg_order.specs.Mark.{mark_number}
use Rattle.sg_order.specs.Order.{RowHas}
use Rattle.sg_order.proofs.relation.closure.Given as goal

abbrev pub invariant-loop-pair : goal.invariant-loop-pair
invariant-loop-pair l = record {
  size : length l.rows ≡ 17;
  exact : (a b : Mark) → (RowHas l.rows (mark_number a) (mark_number b)) ↔ (Precedes (take l.pair-index l.pairs) a b);
}
