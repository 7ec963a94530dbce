-- A unit leaves the rows of a scope, one label after another.
use Rattle.std.proofs.Common.{◌≡◌, ℕ, ◌+◌, ◌<◌, List, ◌↔◌, inl, inr, refl, sym, ◌∙◌, ap, subst, arith}
use Rattle.std.proofs.lemmas.Bool.{cases_eq}
use Rattle.sg_base.specs.declared.scope.Scope.{Scope}
use Rattle.sg_base.proofs.Finite.{each_at}
use Rattle.sg_state.specs.declared.row.Row.{Row}
use Rattle.sg_state.specs.declared.slot.Slot.{Slot}
use Rattle.sg_state.specs.Place.{PlaceOf, HasTarget, HasHolder, IsPlace, LosesHolder, LosesUnit}
use Rattle.sg_state.specs.Slot.{without_holder}

-- the unit has left the rows of the labels below k
pub record LeftBelow {D : Type 0} (old new : PlaceOf D) (k unit : ℕ) : Type 0 where
  pub targets : (m : ℕ) (t : Scope) → (HasTarget new m t) ↔ (HasTarget old m t)
  pub holders : (m u : ℕ) → (HasHolder new m u) ↔ (((m < k) × (u ≡ unit) → ⊥) × HasHolder old m u)
  pub slot : new.slot ≡ old.slot
  pub place : IsPlace new

pub left_none : {D : Type 0} (p : PlaceOf D) (unit : ℕ) → IsPlace p → LeftBelow p p 0 unit
left_none p unit ok = record {
  targets = λ m t. ((λ h. h), (λ h. h));
  holders = λ m u. ((λ h. ((λ e. absurd (omega (arith, e.0))), h)), (λ h. h.1));
  slot = refl;
  place = ok;
}

pub left_more : {D : Type 0} (old mid new : PlaceOf D) (k unit : ℕ) → LeftBelow old mid k unit → LosesHolder mid new k unit → IsPlace new → LeftBelow old new (k + 1) unit
left_more old mid new k unit l h ok = record {
  targets = λ m t. ((λ a. (l.targets m t).0 ((h.targets m t).0 a)), (λ a. (h.targets m t).1 ((l.targets m t).1 a)));
  holders = λ m u. (
    (λ a.
        let b = (h.holders m u).0 a in
        let c = (l.holders m u).0 b.1 in
        ((λ e. elim (cases_eq m k) [ inl s ↦ b.0 (s, e.1) | inr n ↦ c.0 (below m k e.0 n, e.1) ]), c.1)),
    (λ a. (h.holders m u).1 ((λ e. a.0 (at_last m k e.0, e.1)), (l.holders m u).1 ((λ e. a.0 (lower m k e.0, e.1)), a.1))),
  );
  slot = h.slot ∙ l.slot;
  place = ok;
}
  where
    below : (m k : ℕ) → m < k + 1 → (m ≡ k → ⊥) → m < k
    below m k a n = omega (arith, a, n)

    at_last : (m k : ℕ) → m ≡ k → m < k + 1
    at_last m k e = omega (arith, e)

    lower : (m k : ℕ) → m < k → m < k + 1
    lower m k e = omega (arith, e)

pub left_all : {D : Type 0} (old new : PlaceOf D) (rows : List (ℕ × Row)) (slot last : Slot D) (k unit : ℕ) → IsPlace old → k ≡ 16 → LeftBelow old new k unit → record { rows = rows; slot = slot } ≡ new → last ≡ without_holder unit slot → LosesUnit {D = D} old (record { rows = rows; slot = last }) unit
left_all {D} old new rows slot last k unit ok sixteen l e f =
    let m : LeftBelow {D = D} old (record { rows = rows; slot = slot }) k unit = subst (λ (x : PlaceOf D). LeftBelow old x k unit) (sym e) l in
    record {
      targets = λ j t. m.targets j t;
      holders = λ j u. (
        (λ a. let b = (m.holders j u).0 a in ((λ s. b.0 (label_below j u b.1, s)), b.1)),
        (λ a. (m.holders j u).1 ((λ s. a.0 s.1), a.1)),
      );
      slot = f ∙ ap (without_holder unit) m.slot;
    }
  where
    label_below : (j u : ℕ) → HasHolder old j u → j < k
    label_below j u h = let below : j < 16 = each_at (λ (r : ℕ × Row). r.0 < 16) old.rows ok.labelled (j, h.0) h.1 in omega (arith, below, sixteen)
