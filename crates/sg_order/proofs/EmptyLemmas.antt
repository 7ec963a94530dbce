-- Orders in which some mark comes before another.
use Rattle.std.proofs.Common.{◌≡◌, ℕ, zero, suc, ◌+◌, ◌<◌, ◌≤◌, ◌/◌, ◌%◌, List, IsTrue, inl, inr, refl, sym, ◌∙◌, arith, slice_index}
use Rattle.std.proofs.lemmas.Bool.{cases_lt}
use Rattle.std.proofs.lemmas.Nat.Bits.{bit_at_lowest, bit_at-suc}
use Rattle.std.specs.Int.{bit_at}
use Rattle.sg_base.specs.declared.mark.Mark.{Mark}
use Rattle.sg_base.specs.declared.mark.Mark.TheVariants.{End, Of}
use Rattle.sg_order.specs.Mark.{mark_number}
use Rattle.sg_order.specs.Order.{precedes}

-- a number that is not 0 has a bit
has_bit : (k n : ℕ) → n ≤ k → 0 < n → (j : ℕ) × (bit_at n j ≡ 1)
has_bit zero n small some = absurd (omega (arith, small, some))
has_bit (suc k) n small some =
    elim (cases_lt (n % 2) 1) [
      | inl even ↦ let m = has_bit k (n / 2) (omega arith) (omega arith) in (suc m.0, bit_at-suc n m.0 ∙ m.1)
      | inr odd ↦ (0, bit_at_lowest n ∙ omega arith)
    ]

mark_for : (i : ℕ) → (m : Mark) × (mark_number m ≡ i)
mark_for zero = (End, refl)
mark_for (suc i) = (Of i, omega arith)

-- a row that is not 0 has a mark that its own comes before
pub some_pair : (rows : List ℕ) (i : ℕ) → 0 < slice_index rows i → (a : Mark) × (b : Mark) × IsTrue (precedes rows a b)
some_pair rows i some =
    let bit = has_bit (slice_index rows i) (slice_index rows i) (omega arith) some in
    let a = mark_for i in
    let b = mark_for bit.0 in
    (a.0, b.0, rw (a.1, b.1, bit.1) refl)
