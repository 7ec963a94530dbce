-- Unions of sets of labels.
use Rattle.std.proofs.Common.{◌≡◌, ℕ, zero, suc, ◌<◌, ◌*◌, ◌^◌, ◌%◌, ◌⊎◌, max, inl, inr, bit_or, arith, sym, ◌∙◌, w16}
use Rattle.std.proofs.lemmas.Nat.Bits.{bit_at_or, bit_at-lt, bit_at_set_same, bit_at_set_other, bit_at_above}
use Rattle.std.proofs.lemmas.Bool.{cases_eq, cases_lt}
use Rattle.std.specs.Int.{bit_at}
use Rattle.sg_base.specs.Label.{Has}

one_of_max : (x y : ℕ) → x < 2 → max x y ≡ 1 → (x ≡ 1) ⊎ (y ≡ 1)
one_of_max zero y l h = inr (omega arith)
one_of_max (suc x) y l h = inl (omega arith)

pub Has_either : (a b m : ℕ) → Has (bit_or a b) m → Has a m ⊎ Has b m
Has_either a b m h = one_of_max (bit_at a m) (bit_at b m) (bit_at-lt a m) (sym (bit_at_or a b m) ∙ h)

pub either_Has : (a b m : ℕ) → Has a m ⊎ Has b m → Has (bit_or a b) m
either_Has a b m (inl h) = omega (arith, h, bit_at_or a b m, bit_at-lt b m)
either_Has a b m (inr h) = omega (arith, h, bit_at_or a b m, bit_at-lt a m)

pub Has_with : (a k m : ℕ) → k < 16 → Has (bit_or a (1 * 2 ^ k % 65536)) m → Has a m ⊎ m ≡ k
Has_with a k m l h =
    elim (cases_eq m k) [
      | inl e ↦ inr e
      | inr n ↦ inl (sym (bit_at_set_other w16 a k l m n) ∙ h)
    ]

pub with_Has : (a k m : ℕ) → k < 16 → Has a m ⊎ m ≡ k → Has (bit_or a (1 * 2 ^ k % 65536)) m
with_Has a k m l h =
    elim (cases_eq m k) [
      | inl e ↦ rw e (bit_at_set_same w16 a k l)
      | inr n ↦ bit_at_set_other w16 a k l m n ∙ (elim h [ inl p ↦ p | inr e ↦ absurd (n e) ])
    ]

pub Has_small : (a m : ℕ) → a < 65536 → Has a m → m < 16
Has_small a m l h =
    elim (cases_lt m 16) [
      | inl k ↦ k
      | inr far ↦ absurd (omega (arith, bit_at_above a 16 m l far, h))
    ]
