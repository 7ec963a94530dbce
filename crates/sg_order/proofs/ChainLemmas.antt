-- Chains of pairs, and what one more pair adds to them.
use Rattle.std.proofs.Common.{◌≡◌, ℕ, zero, suc, ◌<◌, List, [], ◌∷◌, ◌++◌, ◌⊎◌, ◌↔◌, inl, inr, refl, sym, ap, subst, arith, slice_index_or, replicate, get_or}
use Rattle.std.specs.List.{Contains}
use Rattle.std.proofs.lemmas.List.Elements.{Contains-append_left, Contains-append_cases, Contains-push}
use Rattle.std.proofs.lemmas.Nat.Bits.{bit_at-zero}
use Rattle.std.proofs.lemmas.Bool.{cases_lt}
use Rattle.std.proofs.lemmas.List.{get_or-replicate}
use Rattle.std.specs.Int.{bit_at}
use Rattle.sg_base.specs.declared.mark.Mark.{Mark}
use Rattle.sg_base.specs.declared.mark.Mark.TheVariants.{End, Of}
use Rattle.sg_base.proofs.Finite.{nothing_in, single}
use Rattle.sg_order.proofs.RowLemmas.{no_row_past}
use Rattle.sg_order.specs.Mark.{Precedes, given, through}
use Rattle.sg_order.specs.Mark.{mark_number}
use Rattle.sg_order.specs.Order.{RowHas}

pub Precedes-nil : (a b : Mark) → Precedes [] a b → ⊥
Precedes-nil a b (given c) = nothing_in _ c
Precedes-nil a b (through c r) = nothing_in _ c

module _ (ps : List (Mark × Mark)) where
  pub Precedes-trans : (a b c : Mark) → Precedes ps a b → Precedes ps b c → Precedes ps a c
  Precedes-trans a b c (given k) q = through k q
  Precedes-trans a b c (through k r) q = through k (Precedes-trans _ b c r q)

  module _ (x y : Mark) where
    pub wider : (a b : Mark) → Precedes ps a b → Precedes (ps ++ (x, y) ∷ []) a b
    wider a b (given k) = given (Contains-append_left ps ((x, y) ∷ []) (a, b) k)
    wider a b (through {b = m} k r) = through (Contains-append_left ps ((x, y) ∷ []) (a, m) k) (wider m b r)

    -- from a to b over the pair (x, y)
    abbrev pub Over : Mark → Mark → Type 0
    Over a b = (a ≡ x ⊎ Precedes ps a x) × (b ≡ y ⊎ Precedes ps y b)

    old_or_new : (a b : Mark) → Contains (ps ++ (x, y) ∷ []) (a, b) → Contains ps (a, b) ⊎ ((a ≡ x) × (b ≡ y))
    old_or_new a b c =
        elim (Contains-append_cases ps ((x, y) ∷ []) (a, b) c) [
          | inl k ↦ inl k
          | inr k ↦
              let e : ◌≡◌ {A = Mark × Mark} (a, b) (x, y) = single (x, y) (a, b) k in
              inr (ap (λ (p : Mark × Mark). p.0) e, ap (λ (p : Mark × Mark). p.1) e)
        ]

    first_then : (a m b : Mark) → Contains ps (a, m) → (m ≡ x ⊎ Precedes ps m x) → Precedes ps a x
    first_then a m b k (inl e) = given (subst (λ (t : Mark). Contains ps (a, t)) e k)
    first_then a m b k (inr r) = through k r

    step_over : (a m b : Mark) → Contains ps (a, m) ⊎ ((a ≡ x) × (m ≡ y)) → Precedes ps m b ⊎ Over m b → Precedes ps a b ⊎ Over a b
    step_over a m b (inl k) (inl r) = inl (through k r)
    step_over a m b (inl k) (inr o) = inr (inr (first_then a m b k o.0), o.1)
    step_over a m b (inr e) (inl r) = inr (inl e.0, inr (subst (λ (t : Mark). Precedes ps t b) e.1 r))
    step_over a m b (inr e) (inr o) = inr (inl e.0, o.1)

    pub Precedes-push : (a b : Mark) → Precedes (ps ++ (x, y) ∷ []) a b → Precedes ps a b ⊎ Over a b
    Precedes-push a b (given c) =
        elim (old_or_new a b c) [ inl k ↦ inl (given k) | inr e ↦ inr (inl e.0, inl e.1) ]
    Precedes-push a b (through {b = m} c r) = step_over a m b (old_or_new a m c) (Precedes-push m b r)

pub mark_number-same : (a b : Mark) → mark_number a ≡ mark_number b → a ≡ b
mark_number-same End End h = refl
mark_number-same End (Of l) h = absurd (omega arith)
mark_number-same (Of l) End h = absurd (omega arith)
mark_number-same (Of l) (Of m) h =
    let same : l ≡ m = omega arith in
    ap (λ (n : ℕ). Of n) same

pub no_bit : (i j : ℕ) → RowHas (replicate 17 0) i j → ⊥
no_bit i j h =
    elim (cases_lt i 17) [
      | inl l ↦
          let none : get_or (replicate 17 0) i 0 ≡ 0 = get_or-replicate 17 i 0 0 l in
          let bit : bit_at 0 j ≡ 1 = subst (λ (n : ℕ). bit_at n j ≡ 1) none h in
          absurd (omega (arith, bit_at-zero j, bit))
      | inr far ↦ no_row_past (replicate 17 0) i j refl far h
    ]

module _ (old new : List ℕ) (ps : List (Mark × Mark)) (x y : Mark) (exact : (a b : Mark) → (RowHas old (mark_number a) (mark_number b)) ↔ (Precedes ps a b)) (grow : (i j : ℕ) → (RowHas new i j) ↔ (RowHas old i j ⊎ ((i ≡ mark_number x ⊎ RowHas old i (mark_number x)) × (j ≡ mark_number y ⊎ RowHas old (mark_number y) j)))) where
  grown_to : (a b : Mark) → Precedes ps a b ⊎ Over ps x y a b → Precedes (ps ++ (x, y) ∷ []) a b
  grown_to a b (inl p) = wider ps x y a b p
  grown_to a b (inr o) =
      let mid : Precedes (ps ++ (x, y) ∷ []) x y = given (Contains-push ps (x, y)) in
      let right : Precedes (ps ++ (x, y) ∷ []) x b =
      elim o.1 [
        | inl e ↦ subst (λ (t : Mark). Precedes (ps ++ (x, y) ∷ []) x t) (sym e) mid
        | inr r ↦ Precedes-trans (ps ++ (x, y) ∷ []) x y b mid (wider ps x y y b r)
      ] in
      elim o.0 [
        | inl e ↦ subst (λ (t : Mark). Precedes (ps ++ (x, y) ∷ []) t b) (sym e) right
        | inr r ↦ Precedes-trans (ps ++ (x, y) ∷ []) a x b (wider ps x y a x r) right
      ]

  over_to : (a b : Mark) → Over ps x y a b → (mark_number a ≡ mark_number x ⊎ RowHas old (mark_number a) (mark_number x)) × (mark_number b ≡ mark_number y ⊎ RowHas old (mark_number y) (mark_number b))
  over_to a b o = (
    elim o.0 [ inl e ↦ inl (ap mark_number e) | inr r ↦ inr ((exact a x).1 r) ],
    elim o.1 [ inl e ↦ inl (ap mark_number e) | inr r ↦ inr ((exact y b).1 r) ],
  )

  over_from : (a b : Mark) → (mark_number a ≡ mark_number x ⊎ RowHas old (mark_number a) (mark_number x)) × (mark_number b ≡ mark_number y ⊎ RowHas old (mark_number y) (mark_number b)) → Over ps x y a b
  over_from a b o = (
    elim o.0 [ inl e ↦ inl (mark_number-same a x e) | inr r ↦ inr ((exact a x).0 r) ],
    elim o.1 [ inl e ↦ inl (mark_number-same b y e) | inr r ↦ inr ((exact y b).0 r) ],
  )

  pub exact_push : (a b : Mark) → (RowHas new (mark_number a) (mark_number b)) ↔ (Precedes (ps ++ (x, y) ∷ []) a b)
  exact_push a b = (
    (λ h. grown_to a b (elim ((grow (mark_number a) (mark_number b)).0 h) [ inl p ↦ inl ((exact a b).0 p) | inr o ↦ inr (over_from a b o) ])),
    (λ p. (grow (mark_number a) (mark_number b)).1 (elim (Precedes-push ps x y a b p) [ inl r ↦ inl ((exact a b).1 r) | inr o ↦ inr (over_to a b o) ])),
  )
