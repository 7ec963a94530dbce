-- Whether somebody holds a row.
use Rattle.std.proofs.Common.{◌≡◌, ℕ, List, [], ◌∷◌, Bool, true, false, IsTrue, not, ◌&&◌, ◌||◌, eqb, inl, inr, refl, sym, ◌∙◌, subst}
use Rattle.std.proofs.lemmas.Bool.{cases_Bool}
use Rattle.std.specs.List.{Contains, list_any}
use Rattle.sg_base.specs.declared.scope.Scope.{Scope}
use Rattle.sg_base.specs.Scope.{is_scope}
use Rattle.sg_base.proofs.Finite.{nothing_in, Contains-head, Contains-tail, Contains-cons}
use Rattle.sg_base.proofs.Scopes.{scope_same, same_scope, number_same, number_itself, both_true}
use Rattle.sg_state.specs.Held.{HeldOf, RowHold, HoldsRow}
use Rattle.sg_unit.proofs.Writes.{row_hold}
use Rattle.sg_headers.specs.Outcome.{is_closed}

any_from : {X : Type 0} (f : X → Bool) (xs : List X) → list_any f xs ≡ true → (x : X) × Contains xs x × (f x ≡ true)
any_from f [] e = absurd (cc)
any_from f (x ∷ xs) e =
    elim (cases_Bool (f x)) [
      | inl b ↦ (x, Contains-head x xs, b)
      | inr b ↦ let k = any_from f xs (sym (skip (f x) (list_any f xs) b) ∙ e) in (k.0, Contains-tail x k.0 xs k.1, k.2)
    ]
  where
    skip : (a b : Bool) → a ≡ false → (a || b) ≡ b
    skip a b e = rw e refl

any_to : {X : Type 0} (f : X → Bool) (xs : List X) (x : X) → Contains xs x → f x ≡ true → list_any f xs ≡ true
any_to f [] x c e = absurd (nothing_in x c)
any_to {X} f (y ∷ xs) x c e =
    elim (Contains-cons y x xs c) [
      | inl s ↦ first (f y) (list_any f xs) (subst (λ (i : X). f i ≡ true) s e)
      | inr k ↦ later (f y) (list_any f xs) (any_to f xs x k e)
    ]
  where
    first : (a b : Bool) → a ≡ true → (a || b) ≡ true
    first a b e = rw e refl

    later : (a b : Bool) → b ≡ true → (a || b) ≡ true
    later true b e = refl
    later false b e = e

module _ {D : Type 0} (h : HeldOf D) (l : ℕ) (s : Scope) where
  abbrev is_it : RowHold → Bool
  is_it k = is_scope k.scope s && eqb k.label l

  pub holder_of : is_closed h l s ≡ false → (u : ℕ) × HoldsRow h u s l
  holder_of e =
      let k = any_from is_it h.row_holds (was (list_any is_it h.row_holds) e) in
      let both = both_true (is_scope k.0.scope s) (eqb k.0.label l) k.2 in
      (k.0.unit, subst (λ (x : Scope). HoldsRow h k.0.unit x l) (scope_same k.0.scope s both.0) (subst (λ (n : ℕ). HoldsRow h k.0.unit k.0.scope n) (number_same k.0.label l both.1) k.1))
    where
      was : (b : Bool) → not b ≡ false → b ≡ true
      was true e = refl
      was false e = absurd (cc)

  pub no_holder : IsTrue (is_closed h l s) → (u : ℕ) → HoldsRow h u s l → ⊥
  no_holder e u c = differ (list_any is_it h.row_holds) e (any_to is_it h.row_holds (row_hold s l u) c itself)
    where
      differ : (b : Bool) → not b ≡ true → b ≡ true → ⊥
      differ true n e = cc
      differ false n e = cc

      itself : is_it (row_hold s l u) ≡ true
      itself = rw (same_scope s s refl, number_itself l) refl
