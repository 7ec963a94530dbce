-- One row that takes in another.
use Rattle.std.proofs.Common.{◌≡◌, ℕ, ◌+◌, ◌*◌, ◌/◌, ◌%◌, ◌^◌, ◌<◌, ◌≤◌, ◌⊎◌, ◌↔◌, inl, inr, sym, ◌∙◌, List, length, get_or, set, bit_or, bit_and, arith, w32, get_or-set_other, get_or-set_same}
use Rattle.std.proofs.lemmas.Bool.{cases_eq}
use Rattle.std.proofs.lemmas.Nat.Bits.{bit_at_set_same, bit_at_set_other, shr_and_one, bit_at-zero}
use Rattle.std.proofs.lemmas.List.{get_or_past}
use Rattle.std.specs.Int.{bit_at}
use Rattle.sg_base.proofs.Bits.{Has_either, either_Has}
use Rattle.sg_order.specs.Order.{RowHas}

pub with_one : (n k j : ℕ) → k < 32 → (bit_at (bit_or n (1 * 2 ^ k % 4294967296)) j ≡ 1) ↔ ((j ≡ k) ⊎ (bit_at n j ≡ 1))
with_one n k j l =
    elim (cases_eq j k) [
      | inl e ↦ ((λ _. inl e), (λ _. rw e (bit_at_set_same w32 n k l)))
      | inr d ↦ ((λ h. inr (sym (bit_at_set_other w32 n k l j d) ∙ h)), (λ h. bit_at_set_other w32 n k l j d ∙ (elim h [ inl e ↦ absurd (d e) | inr p ↦ p ])))
    ]

pub grown : (row base to j : ℕ) → to < 32 → (bit_at (bit_or row (bit_or base (1 * 2 ^ to % 4294967296))) j ≡ 1) ↔ ((bit_at row j ≡ 1) ⊎ ((j ≡ to) ⊎ (bit_at base j ≡ 1)))
grown row base to j l = (
  (λ h. elim (Has_either row (bit_or base (1 * 2 ^ to % 4294967296)) j h) [ inl p ↦ inl p | inr p ↦ inr ((with_one base to j l).0 p) ]),
  (λ h. either_Has row (bit_or base (1 * 2 ^ to % 4294967296)) j (elim h [ inl p ↦ inl p | inr p ↦ inr ((with_one base to j l).1 p) ])),
)

-- what a row becomes where the pair is added
abbrev pub Joins : List ℕ → ℕ → ℕ → ℕ → ℕ → Type 0
Joins old from to i j = RowHas old i j ⊎ ((i ≡ from ⊎ RowHas old i from) × (j ≡ to ⊎ RowHas old to j))

abbrev pub Done : List ℕ → List ℕ → ℕ → ℕ → ℕ → Type 0
Done old now from to i = (k j : ℕ) → k < i → (RowHas now k j) ↔ (Joins old from to k j)

module _ (old now : List ℕ) (from to i : ℕ) (fits : to < 32) (size : length now ≡ 17) (within : i < 17) (same : get_or now i 0 ≡ get_or old i 0) (done : Done old now from to i) where
  taken : ℕ
  taken = bit_or (get_or now i 0) (bit_or (get_or old to 0) (1 * 2 ^ to % 4294967296))

  pub row_joined : (i ≡ from ⊎ RowHas old i from) → Done old (set now i (bit_or (get_or now i 0) (bit_or (get_or old to 0) (1 * 2 ^ to % 4294967296)))) from to (i + 1)
  row_joined hit k j l =
      elim (cases_eq k i) [
        | inr d ↦ rw get_or-set_other (done k j (omega arith))
        | inl e ↦
            let here : i < length now = omega arith in
            rw (e, get_or-set_same, same) (
              (λ h. elim ((grown (get_or old i 0) (get_or old to 0) to j fits).0 h) [ inl p ↦ inl p | inr p ↦ inr (hit, p) ]),
              (λ h. (grown (get_or old i 0) (get_or old to 0) to j fits).1 (elim h [ inl p ↦ inl p | inr p ↦ inr p.1 ])),
            )
      ]

  pub row_kept : ((i ≡ from ⊎ RowHas old i from) → ⊥) → Done old now from to (i + 1)
  row_kept miss k j l =
      elim (cases_eq k i) [
        | inr d ↦ done k j (omega arith)
        | inl e ↦ rw (e, same) ((λ h. inl h), (λ h. elim h [ inl p ↦ p | inr p ↦ absurd (miss p.0) ]))
      ]

pub bit_from_test : (n k : ℕ) → bit_and (n / 2 ^ k) 1 ≡ 1 → bit_at n k ≡ 1
bit_from_test n k h = sym (shr_and_one n k) ∙ h

pub no_row_past : (rows : List ℕ) (i j : ℕ) → length rows ≡ 17 → 17 ≤ i → RowHas rows i j → ⊥
no_row_past rows i j size far h =
    let past : get_or rows i 0 ≡ 0 = get_or_past rows i 0 (omega arith) in
    let bit : bit_at 0 j ≡ 1 = rw past at h in
    absurd (omega (arith, bit_at-zero j, bit))
