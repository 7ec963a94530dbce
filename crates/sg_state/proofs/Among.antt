-- Whether some thing of a list has a scope, and whether a scope has a datum.
use Rattle.std.proofs.Common.{◌≡◌, List, [], ◌∷◌, Bool, true, false, ◌||◌, inl, inr, sym, ap, ◌∙◌, subst, map}
use Rattle.std.proofs.lemmas.Bool.{cases_Bool}
use Rattle.std.specs.List.{Contains, list_any}
use Rattle.sg_base.specs.declared.scope.Scope.{Scope}
use Rattle.sg_base.specs.Scope.{is_scope}
use Rattle.sg_base.proofs.Finite.{nothing_in, Contains-head, Contains-cons, Contains-tail, map-Contains, Contains-map}
use Rattle.sg_base.proofs.Scopes.{scope_same, same_scope}

-- some thing has this scope
module _ {X : Type 0} (key : X → Scope) (s : Scope) where
  abbrev pub any_here : List X → Bool
  any_here xs = list_any (λ x. is_scope (key x) s) xs

  pub any_from : (xs : List X) → any_here xs ≡ true → Contains (map key xs) s
  any_from [] t = absurd (cc)
  any_from (y ∷ ys) t =
      elim (cases_Bool (is_scope (key y) s)) [
        | inl e ↦ subst (λ (z : Scope). Contains (map key (y ∷ ys)) z) (scope_same (key y) s e) (Contains-head (key y) (map key ys))
        | inr e ↦ Contains-tail (key y) s (map key ys) (any_from ys (sym (ap (λ (b : Bool). b || any_here ys) e) ∙ t))
      ]

  pub any_to : (xs : List X) → Contains (map key xs) s → any_here xs ≡ true
  any_to [] c = absurd (nothing_in s c)
  any_to (y ∷ ys) c =
      elim (Contains-cons (key y) s (map key ys) c) [
        | inl e ↦ ap (λ (b : Bool). b || any_here ys) (same_scope (key y) s (sym e))
        | inr m ↦ elim (cases_Bool (is_scope (key y) s)) [
          | inl e ↦ ap (λ (b : Bool). b || any_here ys) e
          | inr e ↦ ap (λ (b : Bool). b || any_here ys) e ∙ any_to ys m
        ]
      ]

-- some pair of the list has this scope
module _ {D : Type 0} (given : List (Scope × D)) (s : Scope) where
  pub pair_from : list_any (λ p. is_scope p.0 s) given ≡ true → (d : D) × Contains given (s, d)
  pair_from t =
      let h = Contains-map (λ (p : Scope × D). p.0) given s (any_from (λ (p : Scope × D). p.0) s given t) in
      ((h.0).1, subst (λ (x : Scope). Contains given (x, (h.0).1)) (sym h.2) h.1)

  pub pair_to : (d : D) → Contains given (s, d) → list_any (λ p. is_scope p.0 s) given ≡ true
  pair_to d c = any_to (λ (p : Scope × D). p.0) s given (map-Contains (λ (p : Scope × D). p.0) given (s, d) c)

  pub pair_none : ((d : D) → Contains given (s, d) → ⊥) → list_any (λ p. is_scope p.0 s) given ≡ false
  pair_none n =
      elim (cases_Bool (list_any (λ p. is_scope p.0 s) given)) [ inl t ↦ absurd (let h = pair_from t in n h.0 h.1) | inr f ↦ f ]
