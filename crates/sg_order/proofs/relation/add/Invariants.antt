use Rattle.std.proofs.Common.{◌≡◌, ℕ, ◌<◌, ◌≤◌, ◌⊎◌, ◌↔◌, length, get_or}
use Rattle.sg_order.specs.Order.{RowHas}
use Rattle.sg_order.proofs.relation.add.Given as goal

abbrev pub invariant-loop-i : goal.invariant-loop-i
invariant-loop-i l = record {
  size : length l.rows ≡ 17;
  rest : (k : ℕ) → l.i ≤ k → get_or l.rows k 0 ≡ get_or l.initial.rows k 0;
  done : (k j : ℕ) → k < l.i → (RowHas l.rows k j) ↔ (RowHas l.initial.rows k j ⊎ ((k ≡ l.from ⊎ RowHas l.initial.rows k l.from) × (j ≡ l.to ⊎ RowHas l.initial.rows l.to j)));
}
