-- Edges and data of a graph, as look-ups find them.
use Rattle.std.proofs.Common.{◌≡◌, Bool, true, false, cond, List, [], ◌∷◌, Option, None, Some, IfSome, IfNone, ◌↔◌, inl, inr, refl, sym, ap, ◌∙◌, subst, map, option_map}
use Rattle.std.proofs.lemmas.Bool.{cases_Bool}
use Rattle.std.specs.Bool.{IsTrue}
use Rattle.std.specs.Cmp.{both_ways}
use Rattle.std.specs.List.{Contains, find, list_any}
use Rattle.std.specs.declared.cmp.Ordering.TheVariants.{Less, Equal}
use Rattle.sg_base.specs.declared.scope.Scope.{Scope}
use Rattle.sg_base.specs.Graph.{GraphOf, HasDatum, HasNoDatum, IsGraph}
use Rattle.sg_base.specs.List.{IsRising}
use Rattle.sg_base.specs.Scope.{is_scope, scope_cmp}
use Rattle.sg_base.proofs.Finite.{nothing_in, Contains-head, Contains-cons, Contains-tail, each_at, map-Contains}
use Rattle.sg_base.proofs.Scopes.{same_scope, scope_itself, scope_same}
use Rattle.sg_state.proofs.Among.{any_from, any_to}
use Rattle.sg_state.proofs.Soundness.{map_itself}
use Rattle.sc_listing.specs.Graph.{datum_of}

-- whether a row has a scope
pub among_is : (row : List Scope) (s : Scope) (b : Bool) → (IsTrue b) ↔ (Contains row s) → b ≡ list_any (λ t. is_scope t s) row
among_is row s b h =
    both_ways b (list_any (λ t. is_scope t s) row)
    (λ e. any_to (λ (t : Scope). t) s row (subst (λ (xs : List Scope). Contains xs s) (sym (map_itself row)) (h.0 e)))
    (λ e. h.1 (subst (λ (xs : List Scope). Contains xs s) (map_itself row) (any_from (λ (t : Scope). t) s row e)))

module _ {D : Type 0} (s : Scope) where
  abbrev first_datum : List (Scope × D) → Option D
  first_datum given = option_map (λ p. p.1) (find (λ p. is_scope p.0 s) given)

  past : (p : Scope × D) (ps : List (Scope × D)) → is_scope p.0 s ≡ false → first_datum (p ∷ ps) ≡ first_datum ps
  past p ps e = ap (λ (b : Bool). option_map (λ (q : Scope × D). q.1) (cond b (Some p) (find (λ (q : Scope × D). is_scope q.0 s) ps))) e

  here : (p : Scope × D) (ps : List (Scope × D)) → is_scope p.0 s ≡ true → first_datum (p ∷ ps) ≡ Some p.1
  here p ps e = ap (λ (b : Bool). option_map (λ (q : Scope × D). q.1) (cond b (Some p) (find (λ (q : Scope × D). is_scope q.0 s) ps))) e

  found_datum : (given : List (Scope × D)) → IsRising scope_cmp (map (λ p. p.0) given) → (d : D) → Contains given (s, d) → first_datum given ≡ Some d
  found_datum [] rises d c = absurd (nothing_in (s, d) c)
  found_datum (p ∷ ps) rises d c =
      elim (cases_Bool (is_scope p.0 s)) [
        | inl e ↦ elim (Contains-cons p (s, d) ps c) [
          | inl same ↦ here p ps e ∙ ap (λ (q : Scope × D). Some q.1) (sym same)
          | inr k ↦ absurd (
              let above : scope_cmp p.0 s ≡ Less = each_at (λ (t : Scope). scope_cmp p.0 t ≡ Less) (map (λ (q : Scope × D). q.0) ps) rises.0 s (map-Contains (λ (q : Scope × D). q.0) ps (s, d) k) in
              let level : scope_cmp p.0 s ≡ Equal = subst (λ (t : Scope). scope_cmp p.0 t ≡ Equal) (scope_same p.0 s e) (scope_itself p.0) in
              let both : Less ≡ Equal = sym above ∙ level in
              cc
              )
        ]
        | inr e ↦ elim (Contains-cons p (s, d) ps c) [
          | inl same ↦ absurd (
              let hit : is_scope p.0 s ≡ true = same_scope p.0 s (sym (ap (λ (q : Scope × D). q.0) same)) in
              let both : false ≡ true = sym e ∙ hit in
              cc
              )
          | inr k ↦ past p ps e ∙ found_datum ps rises.1 d k
        ]
      ]

  no_datum : (given : List (Scope × D)) → ((d : D) → Contains given (s, d) → ⊥) → first_datum given ≡ None
  no_datum [] none = refl
  no_datum (p ∷ ps) none =
      elim (cases_Bool (is_scope p.0 s)) [
        | inl e ↦ absurd (none p.1 (subst (λ (t : Scope). Contains (p ∷ ps) (t, p.1)) (scope_same p.0 s e) (Contains-head p ps)))
        | inr e ↦ past p ps e ∙ no_datum ps (λ d k. none d (Contains-tail p (s, d) ps k))
      ]

-- the datum that a look-up finds
pub datum_is : {B D : Type 0} (now : B → D) (g : GraphOf D) (s : Scope) (r : Option B) → IsGraph g → IfSome r (λ b. HasDatum g s (now b)) → IfNone r (HasNoDatum g s) → option_map now r ≡ datum_of g s
datum_is now g s None sound some none = sym (no_datum s g.given none)
datum_is now g s (Some b) sound some none = sym (found_datum s g.given sound.data_rise (now b) some)
