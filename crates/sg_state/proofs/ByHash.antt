-- Parts in any order: what a look-up finds, and what a write at a part does.
use Rattle.std.proofs.Common.{◌≡◌, ℕ, List, ◌⊎◌, ◌↔◌, Bool, true, ◌&&◌, eqb, refl, sym, ap, ◌∙◌, subst, map, Some, None}
use Rattle.std.proofs.lemmas.Map.{keys-set_value}
use Rattle.std.specs.List.{Contains}
use Rattle.std.specs.Map.{lookup, set_value}
use Rattle.sg_base.specs.declared.scope.Scope.{Scope}
use Rattle.sg_base.specs.List.{IsDistinct}
use Rattle.sg_base.specs.Scope.{is_scope}
use Rattle.sg_base.proofs.Scopes.{scope_same, same_scope, number_same, number_itself, both_true}
use Rattle.sg_state.specs.declared.part.Part.{Part}
use Rattle.sg_state.specs.declared.part.Part.TheVariants.{Keyed, Rest}
use Rattle.sg_state.specs.Part.{HasIn, KeepsParts, AddsIn, LosesIn}
use Rattle.sg_state.specs.SamePart.{is_part}
use Rattle.sg_state.proofs.InParts.{rest_by, keyed_by}
use Rattle.sg_state.proofs.Keyed.{found_there, there_found, not_there, held_adds, held_changes, held_keeps}

keyed_is : (s t : Scope) (l m j k : ℕ) → is_part (Keyed s l j) (Keyed t m k) ≡ (is_scope s t && (eqb l m && eqb j k))
keyed_is s t l m j k = refl

rest_is : (s t : Scope) (l m : ℕ) → is_part (Rest s l) (Rest t m) ≡ (is_scope s t && eqb l m)
rest_is s t l m = refl

pub parts_alike : (p q : Part) → is_part p q ≡ true → p ≡ q
parts_alike (Keyed s l j) (Keyed t m k) e =
    let a = both_true (is_scope s t) (eqb l m && eqb j k) (sym (keyed_is s t l m j k) ∙ e) in
    let b = both_true (eqb l m) (eqb j k) a.1 in
    keyed_by s t l m j k (scope_same s t a.0) (number_same l m b.0) (number_same j k b.1)
parts_alike (Keyed s l j) (Rest t m) e = absurd (cc)
parts_alike (Rest s l) (Keyed t m k) e = absurd (cc)
parts_alike (Rest s l) (Rest t m) e =
    let a = both_true (is_scope s t) (eqb l m) (sym (rest_is s t l m) ∙ e) in
    rest_by s t l m (scope_same s t a.0) (number_same l m a.1)

both : (a b : Bool) → a ≡ true → b ≡ true → (a && b) ≡ true
both a b e f = ap (λ (x : Bool). x && b) e ∙ f

pub part_itself : (p : Part) → is_part p p ≡ true
part_itself (Keyed s l k) = keyed_is s s l l k k ∙ both (is_scope s s) (eqb l l && eqb k k) (same_scope s s refl) (both (eqb l l) (eqb k k) (number_itself l) (number_itself k))
part_itself (Rest s l) = rest_is s s l l ∙ both (is_scope s s) (eqb l l) (same_scope s s refl) (number_itself l)

module _ (es : List (Part × List Scope)) (once : IsDistinct (map (λ p. p.0) es)) (p : Part) where
  pub once_set : (xs : List Scope) (fs : List (Part × List Scope)) → fs ≡ set_value (is_part p) es xs → IsDistinct (map (λ q. q.0) fs)
  once_set xs fs new = subst (λ (l : List (Part × List Scope)). IsDistinct (map (λ q. q.0) l)) (sym new) (subst (λ (ks : List Part). IsDistinct ks) (sym (keys-set_value (is_part p) es xs)) once)

  pub none_has : (t : Scope) → None ≡ lookup (is_part p) es → HasIn es p t → ⊥
  none_has t none h = not_there is_part parts_alike part_itself es p h.0 (sym none) h.1

  module _ (xs : List Scope) (here : Some xs ≡ lookup (is_part p) es) where
    there : Contains es (p, xs)
    there = found_there is_part parts_alike part_itself es p xs (sym here)

    pub part_has : (t : Scope) → (Contains xs t) ↔ (HasIn es p t)
    part_has t = (
      (λ c. (xs, there, c)),
      (λ h.
          let both : Some h.0 ≡ Some xs = sym (there_found is_part parts_alike part_itself es once p h.0 h.1) ∙ sym here in
          let same : h.0 ≡ xs = cc in
          subst (λ (ys : List Scope). Contains ys t) same h.2),
    )

    pub part_adds : (ys : List Scope) (t : Scope) → ((x : Scope) → (Contains ys x) ↔ (Contains xs x ⊎ (x ≡ t))) → AddsIn es (set_value (is_part p) es ys) p t
    part_adds ys t more q x = held_adds is_part parts_alike part_itself es once p xs ys there (λ (zs : List Scope). Contains zs x) (x ≡ t) (more x) q

    pub part_loses : (ys : List Scope) (t : Scope) → ((x : Scope) → (Contains ys x) ↔ (Contains xs x × (x ≡ t → ⊥))) → LosesIn es (set_value (is_part p) es ys) p t
    part_loses ys t less q x =
        held_changes is_part parts_alike part_itself es once p xs ys there (λ (zs : List Scope). Contains zs x) (λ (r : Part). (r ≡ p) × (x ≡ t) → ⊥)
        ((λ c. let k = (less x).0 c in ((λ e. k.1 e.1), k.0)), (λ h. (less x).1 (h.1, (λ e. h.0 (refl, e)))))
        (λ r n e. n e.0) q

    pub part_keeps : (ys : List Scope) → ys ≡ xs → KeepsParts es (set_value (is_part p) es ys)
    part_keeps ys same q x =
        held_keeps is_part parts_alike part_itself es once p xs ys there (λ (zs : List Scope). Contains zs x)
        ((λ c. subst (λ (zs : List Scope). Contains zs x) same c), (λ c. subst (λ (zs : List Scope). Contains zs x) (sym same) c)) q
