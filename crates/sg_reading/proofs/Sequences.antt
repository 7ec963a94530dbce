-- One rule after another.
use Rattle.std.proofs.Common.{◌≡◌, List, [], ◌∷◌, ◌++◌, ◌⊎◌, inl, inr, refl, sym, ap, ◌∙◌, subst}
use Rattle.sg_reading.specs.Law.{GivesInTurn, AsksInTurn}
use Rattle.sg_reading.specs.Reading.{Reading, done, ask, Gives, Asks, and_then}

module _ {Q A U W : Type 0} (R : Q → A → Type 0) where
  pub and_then-gives : (r : Reading Q A U) (f : U → Reading Q A W) (v : U) (w : W) (qs ps : List Q) → Gives R r v qs → Gives R (f v) w ps → Gives R (and_then r f) w (qs ++ ps)
  and_then-gives (done u) f v w qs ps g h =
      subst (λ (u : U). Gives R (f u) w (qs ++ ps)) (sym g.0) (subst (λ (xs : List Q). Gives R (f v) w (xs ++ ps)) (sym g.1) h)
  and_then-gives (ask q next) f v w qs ps g h = (g.0, g.1, g.2 ++ ps, ap (λ (xs : List Q). xs ++ ps) g.3, and_then-gives (next g.0) f v w g.2 ps g.4 h)

  pub and_then-asks_first : (r : Reading Q A U) (f : U → Reading Q A W) (p : Q) → Asks R r p → Asks R (and_then r f) p
  and_then-asks_first (done u) f p k = absurd k
  and_then-asks_first (ask q next) f p k = elim k [ inl e ↦ inl e | inr more ↦ inr (more.0, more.1, and_then-asks_first (next more.0) f p more.2) ]

  pub and_then-asks_second : (r : Reading Q A U) (f : U → Reading Q A W) (v : U) (qs : List Q) (p : Q) → Gives R r v qs → Asks R (f v) p → Asks R (and_then r f) p
  and_then-asks_second (done u) f v qs p g k = subst (λ (u : U). Asks R (f u) p) (sym g.0) k
  and_then-asks_second (ask q next) f v qs p g k = inr (g.0, g.1, and_then-asks_second (next g.0) f v g.2 p g.4 k)

  gives-and_then : (r : Reading Q A U) (f : U → Reading Q A W) (w : W) (qs : List Q) → Gives R (and_then r f) w qs → (v : U) × (first : List Q) × (second : List Q) × Gives R r v first × Gives R (f v) w second × (qs ≡ first ++ second)
  gives-and_then (done u) f w qs g = (u, [], qs, (refl, refl), g, refl)
  gives-and_then (ask q next) f w qs g =
      let below = gives-and_then (next g.0) f w g.2 g.4 in
      (below.0, q ∷ below.1, below.2, (g.0, g.1, below.1, refl, below.3), below.4, g.3 ∙ ap (λ (xs : List Q). q ∷ xs) below.5)

  asks-and_then : (r : Reading Q A U) (f : U → Reading Q A W) (p : Q) → Asks R (and_then r f) p → Asks R r p ⊎ ((v : U) × (qs : List Q) × Gives R r v qs × Asks R (f v) p)
  asks-and_then (done u) f p k = inr (u, [], (refl, refl), k)
  asks-and_then (ask q next) f p k =
      elim k [
        | inl e ↦ inl (inl e)
        | inr more ↦ elim (asks-and_then (next more.0) f p more.2) [
          | inl first ↦ inl (inr (more.0, more.1, first))
          | inr second ↦ inr (second.0, q ∷ second.1, (more.0, more.1, second.1, refl, second.2), second.3)
        ]
      ]

  pub gives_in_turn : GivesInTurn U W R
  gives_in_turn r f w qs = (
    (λ g. gives-and_then r f w qs g),
    (λ h. subst (λ (xs : List Q). Gives R (and_then r f) w xs) (sym h.5) (and_then-gives r f h.0 w h.1 h.2 h.3 h.4)),
  )

  pub asks_in_turn : AsksInTurn U W R
  asks_in_turn r f p =
      ((λ k. asks-and_then r f p k), (λ h. elim h [ inl first ↦ and_then-asks_first r f p first | inr second ↦ and_then-asks_second r f second.0 second.1 p second.2 second.3 ]))

pub and_then-done : {Q A U : Type 0} (r : Reading Q A U) → and_then r done ≡ r
and_then-done (done v) = refl
and_then-done (ask q next) = λ i. ask q (λ a. and_then-done (next a) i)

pub and_then-and_then : {Q A T U W : Type 0} (r : Reading Q A T) (f : T → Reading Q A U) (g : U → Reading Q A W) → and_then (and_then r f) g ≡ and_then r (λ v. and_then (f v) g)
and_then-and_then (done v) f g = refl
and_then-and_then (ask q next) f g = λ i. ask q (λ a. and_then-and_then (next a) f g i)
