-- The lists of units: what a new scope in one of them does.
use Rattle.std.proofs.Common.{◌≡◌, ℕ, List, ◌⊎◌, ◌↔◌, inl, inr, refl, sym, ◌∙◌, subst, map, Some, None}
use Rattle.std.specs.BTreeMap.{is_at, insert_entry}
use Rattle.std.specs.Cmp.{nat_cmp_total}
use Rattle.std.specs.List.{Contains}
use Rattle.std.specs.Map.{lookup, set_value}
use Rattle.std.specs.Ordering.{nat_cmp}
use Rattle.sg_base.specs.declared.scope.Scope.{Scope}
use Rattle.sg_base.specs.List.{IsRising}
use Rattle.sg_base.proofs.Scopes.{equal_nat}
use Rattle.sg_state.specs.View.{IsListed, KeepsLists}
use Rattle.sg_state.proofs.Keyed.{found-Contains, Contains-found, none_there, at_adds, at_inserts}

module _ (lists : List (ℕ × List Scope)) where
  module _ (up : IsRising nat_cmp (map (λ p. p.0) lists)) (unit : ℕ) (s : Scope) (old new : List Scope) (here : lookup (is_at (nat_cmp unit)) lists ≡ Some old) (more : (t : Scope) → (Contains new t) ↔ (Contains old t ⊎ (t ≡ s))) where
    adds : (t : Scope) (u : ℕ) → (IsListed (set_value (is_at (nat_cmp unit)) lists new) u t) ↔ (IsListed lists u t ⊎ ((u ≡ unit) × (t ≡ s)))
    adds t u = at_adds nat_cmp nat_cmp_total equal_nat lists up unit old new (found-Contains nat_cmp nat_cmp_total equal_nat lists unit old here) (λ (xs : List Scope). Contains xs t) (t ≡ s) (more t) u

    pub kept_set : KeepsLists lists (set_value (is_at (nat_cmp unit)) lists new)
    kept_set u t h = (adds t u).1 (inl h)

    pub listed_set : IsListed (set_value (is_at (nat_cmp unit)) lists new) unit s
    listed_set = (adds s unit).1 (inr (refl, refl))

  module _ (unit : ℕ) (new : List Scope) (none : lookup (is_at (nat_cmp unit)) lists ≡ None) where
    inserts : (t : Scope) (u : ℕ) → (IsListed (insert_entry nat_cmp lists unit new) u t) ↔ (IsListed lists u t ⊎ ((u ≡ unit) × Contains new t))
    inserts t u = at_inserts nat_cmp nat_cmp_total equal_nat lists unit new (λ v c. none_there nat_cmp nat_cmp_total equal_nat lists unit v none c) (λ (xs : List Scope). Contains xs t) u

    pub kept_insert : KeepsLists lists (insert_entry nat_cmp lists unit new)
    kept_insert u t h = (inserts t u).1 (inl h)

    pub listed_insert : (s : Scope) → Contains new s → IsListed (insert_entry nat_cmp lists unit new) unit s
    listed_insert s c = (inserts s unit).1 (inr (refl, c))

    pub none_listed : (s : Scope) → IsListed lists unit s → ⊥
    none_listed s h = none_there nat_cmp nat_cmp_total equal_nat lists unit h.0 none h.1

  pub in_list : IsRising nat_cmp (map (λ p. p.0) lists) → (unit : ℕ) (xs : List Scope) → lookup (is_at (nat_cmp unit)) lists ≡ Some xs → (s : Scope) → IsListed lists unit s → Contains xs s
  in_list up unit xs here s h =
      let both : Some h.0 ≡ Some xs = sym (Contains-found nat_cmp nat_cmp_total equal_nat lists up unit h.0 h.1) ∙ here in
      let same : h.0 ≡ xs = cc in
      subst (λ (ys : List Scope). Contains ys s) same h.2
