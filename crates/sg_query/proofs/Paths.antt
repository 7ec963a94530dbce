-- Steps one after another: their words, ends and scopes, and when they are a path.
use Rattle.std.proofs.Common.{◌≡◌, ℕ, zero, suc, ◌<◌, ◌≤◌, List, [], ◌∷◌, ◌++◌, Bool, true, false, not, ◌&&◌, ◌||◌, inl, inr, refl, sym, ap, subst, length, arith}
use Rattle.std.proofs.lemmas.Bool.{cases_Bool}
use Rattle.std.specs.List.{Contains, list_any}
use Rattle.sg_base.specs.declared.scope.Scope.{Scope}
use Rattle.sg_base.specs.declared.step.Step.{Step}
use Rattle.sg_base.specs.Graph.{GraphOf, HasScope, HasEdge, IsGraph, IsWalk, IsPath}
use Rattle.sg_base.specs.List.{IsDistinct}
use Rattle.sg_base.specs.Path.{end_of, word_of, reached_by}
use Rattle.sg_base.specs.Scope.{is_scope}
use Rattle.sg_base.proofs.Finite.{nothing_in, Contains-head, Contains-cons, Contains-tail, Distinct-left, Distinct-push, Distinct-last}
use Rattle.sg_base.proofs.Scopes.{scope_same, same_scope}
use Rattle.sg_query.specs.Steps.{is_fresh}

-- ---- one after another

pub word_of-append : (ps qs : List Step) → word_of (ps ++ qs) ≡ word_of ps ++ word_of qs
word_of-append [] qs = refl
word_of-append (p ∷ ps) qs = ap (λ (t : List ℕ). p.label ∷ t) (word_of-append ps qs)

pub end_of-append : (s : Scope) (ps qs : List Step) → end_of s (ps ++ qs) ≡ end_of (end_of s ps) qs
end_of-append s [] qs = refl
end_of-append s (p ∷ ps) qs = end_of-append p.to ps qs

pub reached_by-append : (ps qs : List Step) → reached_by (ps ++ qs) ≡ reached_by ps ++ reached_by qs
reached_by-append [] qs = refl
reached_by-append (p ∷ ps) qs = ap (λ (t : List Scope). p.to ∷ t) (reached_by-append ps qs)

-- ---- the last step, and a front

pub snoc_not_nil : (q : List Step) (y : Step) → [] ≡ q ++ y ∷ [] → ⊥
snoc_not_nil [] y e = cc
snoc_not_nil (z ∷ q) y e = cc

pub snoc_same : (p q : List Step) (x y : Step) → p ++ x ∷ [] ≡ q ++ y ∷ [] → (p ≡ q) × (x ≡ y)
snoc_same [] [] x y e = (refl, cc)
snoc_same [] (z ∷ q) x y e = let rest : [] ≡ q ++ y ∷ [] = cc in absurd (snoc_not_nil q y rest)
snoc_same (z ∷ p) [] x y e = let rest : [] ≡ p ++ x ∷ [] = cc in absurd (snoc_not_nil p x rest)
snoc_same (z ∷ p) (w ∷ q) x y e =
    let rest : p ++ x ∷ [] ≡ q ++ y ∷ [] = cc in
    let first : z ≡ w = cc in
    let h : (p ≡ q) × (x ≡ y) = snoc_same p q x y rest in
    (subst (λ (t : Step). z ∷ p ≡ t ∷ q) first (ap (λ (t : List Step). z ∷ t) h.0), h.1)

pub snoc_of : (qs : List Step) (n : ℕ) → length qs ≡ suc n → (p : List Step) × (x : Step) × (qs ≡ p ++ x ∷ []) × (length p ≡ n)
snoc_of [] n h = absurd (omega arith)
snoc_of (q ∷ []) n h = ([], q, refl, omega arith)
snoc_of (q ∷ r ∷ rs) zero h = absurd (omega arith)
snoc_of (q ∷ r ∷ rs) (suc n) h =
    let k : (p : List Step) × (x : Step) × (r ∷ rs ≡ p ++ x ∷ []) × (length p ≡ n) = snoc_of (r ∷ rs) n (omega arith) in
    (q ∷ k.0, k.1, ap (λ (t : List Step). q ∷ t) k.2, ap suc k.3)

-- the scopes of a path's front are distinct
pub front_distinct : (s : Scope) (ps qs : List Step) → IsDistinct (s ∷ reached_by (ps ++ qs)) → IsDistinct (s ∷ reached_by ps)
front_distinct s ps qs d = Distinct-left (s ∷ reached_by ps) (reached_by qs) (rw reached_by-append at d)

-- ---- in a graph

module _ {D : Type 0} (g : GraphOf D) where
  pub Walk-append : (s : Scope) (ps qs : List Step) → IsWalk g s ps → IsWalk g (end_of s ps) qs → IsWalk g s (ps ++ qs)
  Walk-append s [] qs a b = b
  Walk-append s (p ∷ ps) qs a b = (a.0, Walk-append p.to ps qs a.1 b)

  pub walk_front : (s : Scope) (p q : List Step) → IsWalk g s (p ++ q) → IsWalk g s p
  walk_front s [] q w = tt
  walk_front s (x ∷ p) q w = (w.0, walk_front x.to p q w.1)

  pub walk_back : (s : Scope) (p q : List Step) → IsWalk g s (p ++ q) → IsWalk g (end_of s p) q
  walk_back s [] q w = w
  walk_back s (x ∷ p) q w = walk_back x.to p q w.1

  pub end_in : IsGraph g → (s : Scope) (ps : List Step) → HasScope g s → IsWalk g s ps → HasScope g (end_of s ps)
  end_in ok s [] i w = i
  end_in ok s (p ∷ ps) i w = end_in ok p.to ps (ok.target s p.label p.to w.0) w.1

  pub path_front : (s : Scope) (p q : List Step) → IsPath g s (p ++ q) → IsPath g s p
  path_front s p q h = (walk_front s p q h.0, front_distinct s p q h.1)

  pub path_push : (s : Scope) (p : List Step) (x : Step) → IsPath g s p → HasEdge g (end_of s p) x.label x.to → (Contains (s ∷ reached_by p) x.to → ⊥) → IsPath g s (p ++ x ∷ [])
  path_push s p x h e n = (
    Walk-append s p (x ∷ []) h.0 (e, tt),
    subst (λ (t : List Scope). IsDistinct (s ∷ t)) (sym (reached_by-append p (x ∷ []))) (Distinct-push (s ∷ reached_by p) x.to h.1 n),
  )

  pub path_last : (s : Scope) (p : List Step) (x : Step) → IsPath g s (p ++ x ∷ []) → HasEdge g (end_of s p) x.label x.to × (Contains (s ∷ reached_by p) x.to → ⊥)
  path_last s p x h = (
    (walk_back s p (x ∷ []) h.0).0,
    Distinct-last (s ∷ reached_by p) x.to (subst (λ (t : List Scope). IsDistinct (s ∷ t)) (reached_by-append p (x ∷ [])) h.1),
  )

-- ---- scopes that a path passes by

or_right : (a b : Bool) → b ≡ true → (a || b) ≡ true
or_right true b h = refl
or_right false b h = h

pub any_from : (ps : List Step) (t : Scope) → list_any (λ p. is_scope p.to t) ps ≡ true → Contains (reached_by ps) t
any_from [] t h = absurd (cc)
any_from (p ∷ ps) t h =
    elim (cases_Bool (is_scope p.to t)) [
      | inl e ↦ subst (λ (s : Scope). Contains (p.to ∷ reached_by ps) s) (scope_same p.to t e) (Contains-head p.to (reached_by ps))
      | inr e ↦ Contains-tail p.to t (reached_by ps) (any_from ps t (subst (λ (b : Bool). (b || list_any (λ q. is_scope q.to t) ps) ≡ true) e h))
    ]

any_to : (ps : List Step) (t : Scope) → Contains (reached_by ps) t → list_any (λ p. is_scope p.to t) ps ≡ true
any_to [] t c = absurd (nothing_in t c)
any_to (p ∷ ps) t c =
    elim (Contains-cons p.to t (reached_by ps) c) [
      | inl e ↦ subst (λ (b : Bool). (b || list_any (λ q. is_scope q.to t) ps) ≡ true) (sym (same_scope p.to t (sym e))) refl
      | inr k ↦ or_right (is_scope p.to t) (list_any (λ q. is_scope q.to t) ps) (any_to ps t k)
    ]

both_not : (a b : Bool) → (not a && not b) ≡ true → (a ≡ false) × (b ≡ false)
both_not true b h = absurd (cc)
both_not false true h = absurd (cc)
both_not false false h = (refl, refl)

not_both : (a b : Bool) → (a ≡ true → ⊥) → (b ≡ true → ⊥) → (not a && not b) ≡ true
not_both true b m n = absurd (m refl)
not_both false true m n = absurd (n refl)
not_both false false m n = refl

pub fresh_from : (start : Scope) (ps : List Step) (t : Scope) → is_fresh start ps t ≡ true → Contains (start ∷ reached_by ps) t → ⊥
fresh_from start ps t h c =
    let b = both_not (is_scope t start) (list_any (λ p. is_scope p.to t) ps) h in
    elim (Contains-cons start t (reached_by ps) c) [
      | inl e ↦ cc (same_scope t start e, b.0)
      | inr k ↦ cc (any_to ps t k, b.1)
    ]

pub fresh_to : (start : Scope) (ps : List Step) (t : Scope) → (Contains (start ∷ reached_by ps) t → ⊥) → is_fresh start ps t ≡ true
fresh_to start ps t n =
    not_both (is_scope t start) (list_any (λ p. is_scope p.to t) ps)
    (λ e. n (subst (λ (s : Scope). Contains (s ∷ reached_by ps) t) (scope_same t start e) (Contains-head t (reached_by ps))))
    (λ e. n (Contains-tail start t (reached_by ps) (any_from ps t e)))
