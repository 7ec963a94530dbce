-- The place of a scope that a unit has just made.
use Rattle.std.proofs.Common.{◌≡◌, ℕ, ◌+◌, ◌<◌, [], ◌↔◌, Bool, cond, inl, inr, refl, sym, ◌∙◌, subst, arith}
use Rattle.std.proofs.lemmas.Bool.{cases_eq}
use Rattle.sg_base.specs.declared.scope.Scope.{Scope}
use Rattle.sg_base.specs.Label.{Has}
use Rattle.sg_base.proofs.Finite.{nothing_in}
use Rattle.sg_state.specs.declared.slot.Slot.TheVariants.{Waits, Empty}
use Rattle.sg_state.specs.Place.{PlaceOf, HasTarget, HasHolder, IsPlace, IsFresh, KeepsPlace, AddsHolder}

pub keeps_then_adds : {D : Type 0} (old mid new : PlaceOf D) (l unit : ℕ) → KeepsPlace old mid → AddsHolder mid new l unit → AddsHolder old new l unit
keeps_then_adds old mid new l unit k a = record {
  targets = λ m t. ((λ h. (k.targets m t).0 ((a.targets m t).0 h)), (λ h. (a.targets m t).1 ((k.targets m t).1 h)));
  holders = λ m u. (
    (λ h. elim ((a.holders m u).0 h) [ inl x ↦ inl ((k.holders m u).0 x) | inr e ↦ inr e ]),
    (λ h. (a.holders m u).1 (elim h [ inl x ↦ inl ((k.holders m u).1 x) | inr e ↦ inr e ])),
  );
  slot = a.slot ∙ k.slot;
}

-- the unit holds the rows of the labels below k that are wanted
pub record FreshBelow {D : Type 0} (p : PlaceOf D) (unit labels : ℕ) (datum : Bool) (k : ℕ) : Type 0 where
  pub place : IsPlace p
  pub targets : (l : ℕ) (t : Scope) → HasTarget p l t → ⊥
  pub holders : (l u : ℕ) → (HasHolder p l u) ↔ ((l < k) × Has labels l × (u ≡ unit))
  pub slot : p.slot ≡ cond datum (Waits unit) Empty

pub fresh_none : {D : Type 0} (p : PlaceOf D) (unit labels : ℕ) (datum : Bool) → p ≡ record { rows = []; slot = cond datum (Waits unit) Empty } → FreshBelow p unit labels datum 0
fresh_none {D} p unit labels datum e = rw e (record {
  place = record { labels_rise = tt; labelled = tt; targets_rise = tt; holders_rise = tt };
  targets = λ l t h. nothing_in (l, h.0) h.1;
  holders = λ l u. ((λ h. absurd (nothing_in (l, h.0) h.1)), (λ h. absurd (omega (arith, h.0))));
  slot = refl;
})

pub fresh_more : {D : Type 0} (old new : PlaceOf D) (unit labels : ℕ) (datum : Bool) (k : ℕ) → Has labels k → FreshBelow old unit labels datum k → AddsHolder old new k unit → IsPlace new → FreshBelow new unit labels datum (k + 1)
fresh_more old new unit labels datum k has f a ok = record {
  place = ok;
  targets = λ l t h. f.targets l t ((a.targets l t).0 h);
  holders = λ l u. (
    (λ h. elim ((a.holders l u).0 h) [
      | inl x ↦ let b = (f.holders l u).0 x in (lower l k b.0, b.1, b.2)
      | inr e ↦ (at_last l k e.0, subst (Has labels) (sym e.0) has, e.1)
    ]),
    (λ h. (a.holders l u).1 (elim (cases_eq l k) [ inl s ↦ inr (s, h.2) | inr n ↦ inl ((f.holders l u).1 (below l k h.0 n, h.1, h.2)) ])),
  );
  slot = a.slot ∙ f.slot;
}
  where
    below : (m k : ℕ) → m < k + 1 → (m ≡ k → ⊥) → m < k
    below m k a n = omega (arith, a, n)

    at_last : (m k : ℕ) → m ≡ k → m < k + 1
    at_last m k e = omega (arith, e)

    lower : (m k : ℕ) → m < k → m < k + 1
    lower m k e = omega (arith, e)

pub fresh_other : {D : Type 0} (p : PlaceOf D) (unit labels : ℕ) (datum : Bool) (k : ℕ) → (Has labels k → ⊥) → FreshBelow p unit labels datum k → FreshBelow p unit labels datum (k + 1)
fresh_other p unit labels datum k none f = record {
  place = f.place;
  targets = f.targets;
  holders = λ l u. (
    (λ h. let b = (f.holders l u).0 h in (lower l k b.0, b.1, b.2)),
    (λ h. elim (cases_eq l k) [ inl s ↦ absurd (none (subst (Has labels) s h.1)) | inr n ↦ (f.holders l u).1 (below l k h.0 n, h.1, h.2) ]),
  );
  slot = f.slot;
}
  where
    below : (m k : ℕ) → m < k + 1 → (m ≡ k → ⊥) → m < k
    below m k a n = omega (arith, a, n)

    lower : (m k : ℕ) → m < k → m < k + 1
    lower m k e = omega (arith, e)

pub fresh_all : {D : Type 0} (p : PlaceOf D) (unit labels : ℕ) (datum : Bool) (k : ℕ) → k ≡ 16 → FreshBelow p unit labels datum k → IsFresh p unit labels datum
fresh_all p unit labels datum k e f =
    let g : FreshBelow p unit labels datum 16 = subst (FreshBelow p unit labels datum) e f in
    record { place = g.place; targets = g.targets; holders = g.holders; slot = g.slot }
