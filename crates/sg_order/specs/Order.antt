-- An order of marks as rows of bits, one row for each mark.
use Rattle.std.specs.Prelude.{◌≡◌, ℕ, ◌↔◌, List, Bool, ◌==◌, slice_index, IsTrue}
use Rattle.std.specs.Int.{bit_at}
use Rattle.sg_base.specs.declared.mark.Mark.{Mark}
use Rattle.sg_order.specs.Mark.{Precedes, mark_number}

-- the row of the first number has the second
abbrev pub RowHas : List ℕ → ℕ → ℕ → Type 0
RowHas rows i j = bit_at (slice_index rows i) j ≡ 1

-- whether the first mark comes before the second in the order
abbrev pub precedes : List ℕ → Mark → Mark → Bool
precedes rows a b = bit_at (slice_index rows (mark_number a)) (mark_number b) == 1

-- the order is the transitive closure of the pairs, and no mark comes before itself
pub record IsOrderOf (pairs : List (Mark × Mark)) (rows : List ℕ) : Type 0 where
  pub exact : (a b : Mark) → (IsTrue (precedes rows a b)) ↔ (Precedes pairs a b)
  pub strict : (m : Mark) → Precedes pairs m m → ⊥

-- no mark comes before itself, and a mark comes before all that a mark behind it comes before
pub record IsStrict (order : Mark → Mark → Bool) : Type 0 where
  pub irreflexive : (a : Mark) → IsTrue (order a a) → ⊥
  pub transitive : (a b c : Mark) → IsTrue (order a b) → IsTrue (order b c) → IsTrue (order a c)
