-- The set of the scopes that steps reach, as steps come and go.
use Rattle.std.proofs.Common.{◌≡◌, List, [], ◌∷◌, ◌++◌, Bool, true, false, cond, ◌||◌, inl, inr, refl, sym, ap, ◌∙◌, subst}
use Rattle.std.proofs.lemmas.Bool.{cases_Bool}
use Rattle.std.proofs.lemmas.List.Folds.{list_any-append}
use Rattle.std.specs.BTreeMap.{is_at}
use Rattle.std.specs.BTreeSet.{BTreeSet, Updates, contains}
use Rattle.std.specs.List.{Contains, list_any}
use Rattle.std.specs.Ordering.{is_eq}
use Rattle.sg_base.specs.declared.scope.Scope.{Scope}
use Rattle.sg_base.specs.declared.step.Step.{Step}
use Rattle.sg_base.specs.List.{IsDistinct}
use Rattle.sg_base.specs.Path.{reached_by}
use Rattle.sg_base.specs.Scope.{scope_cmp, is_scope}
use Rattle.sg_base.proofs.Finite.{Distinct-left, Distinct-push, Distinct-last}
use Rattle.sg_base.proofs.Rows.{equal_of}
use Rattle.sg_base.proofs.Scopes.{equal_scope, scope_itself, scope_same, same_scope, not_true}
use Rattle.sg_query.specs.Steps.{AreReached}
use Rattle.sg_query.proofs.Paths.{any_from, reached_by-append}

at_is : (s t : Scope) → is_at (scope_cmp s) t ≡ is_scope s t
at_is s t =
    elim (cases_Bool (is_scope s t)) [
      | inl h ↦ ap (λ (o : _). is_eq o) (subst (λ (x : Scope). scope_cmp s x ≡ scope_cmp s s) (scope_same s t h) refl ∙ scope_itself s) ∙ sym h
      | inr h ↦ not_true (is_at (scope_cmp s) t) (λ k. cc (same_scope s t (equal_scope s t (equal_of (scope_cmp s t) k)), h)) ∙ sym h
    ]

push_or : (a b : Bool) → cond a true b ≡ (b || (a || false))
push_or true true = refl
push_or true false = refl
push_or false true = refl
push_or false false = refl

pop_or : (a b : Bool) → (a ≡ true → b ≡ true → ⊥) → cond a false (b || (a || false)) ≡ b
pop_or true true n = absurd (n refl refl)
pop_or true false n = refl
pop_or false true n = refl
pop_or false false n = refl

module _ (ps : List Step) (x : Step) (old new : BTreeSet Scope) where
  pub reached_push : AreReached ps old → Updates scope_cmp old new x.to true → AreReached (ps ++ x ∷ []) new
  reached_push h u t =
      u.0 t ∙ ap (λ (a : Bool). cond a true (contains scope_cmp old t)) (at_is x.to t) ∙ ap (cond (is_scope x.to t) true) (h t)
      ∙ push_or (is_scope x.to t) (list_any (λ p. is_scope p.to t) ps) ∙ sym (list_any-append (λ (p : Step). is_scope p.to t) ps (x ∷ []))

  pub reached_pop : IsDistinct (reached_by (ps ++ x ∷ [])) → AreReached (ps ++ x ∷ []) old → Updates scope_cmp old new x.to false → AreReached ps new
  reached_pop d h u t =
      u.0 t ∙ ap (λ (a : Bool). cond a false (contains scope_cmp old t)) (at_is x.to t) ∙ ap (cond (is_scope x.to t) false) (h t ∙ list_any-append (λ (p : Step). is_scope p.to t) ps (x ∷ []))
      ∙ pop_or (is_scope x.to t) (list_any (λ p. is_scope p.to t) ps) (λ same any.
      Distinct-last (reached_by ps) x.to (subst (λ (l : List Scope). IsDistinct l) (reached_by-append ps (x ∷ [])) d) (subst (Contains (reached_by ps)) (sym (scope_same x.to t same)) (any_from ps t any)))

pub distinct_push : (ps : List Step) (x : Step) → IsDistinct (reached_by ps) → (Contains (reached_by ps) x.to → ⊥) → IsDistinct (reached_by (ps ++ x ∷ []))
distinct_push ps x d n =
    subst (λ (t : List Scope). IsDistinct t) (sym (reached_by-append ps (x ∷ []))) (Distinct-push (reached_by ps) x.to d n)

pub distinct_pop : (ps : List Step) (x : Step) → IsDistinct (reached_by (ps ++ x ∷ [])) → IsDistinct (reached_by ps)
distinct_pop ps x d =
    Distinct-left (reached_by ps) (x.to ∷ []) (subst (λ (t : List Scope). IsDistinct t) (reached_by-append ps (x ∷ [])) d)
