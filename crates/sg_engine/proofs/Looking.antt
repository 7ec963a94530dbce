-- Which of the items that are left are blocked.
use Rattle.std.proofs.Common.{◌≡◌, ℕ, ◌<◌, ◌+◌, List, [], ◌∷◌, ◌++◌, ◌⊎◌, true, ◌&&◌, ◌==◌, inl, inr, refl, sym, ap, ◌∙◌, subst, drop, length, append_assoc, add-one, drop-cons, slice_index_or}
use Rattle.std.proofs.lemmas.Bool.{cases_Bool}
use Rattle.std.specs.List.{Contains, AllByRecursion}
use Rattle.sg_base.specs.declared.scope.Scope.{Scope}
use Rattle.sg_base.specs.Scope.{is_scope}
use Rattle.sg_base.proofs.Finite.{nothing_in, Contains-head, Contains-cons, Contains-tail, each_at}
use Rattle.sg_engine.proofs.Exploring.{cut_has}
use Rattle.sg_base.proofs.Scopes.{scope_same, same_scope, number_same, number_itself, both_true}

row_is : (x : Scope × ℕ) (s : Scope) (l : ℕ) → x.0 ≡ s → x.1 ≡ l → x ≡ (s, l)
row_is x s l a b = ap (λ (t : Scope). (t, x.1)) a ∙ ap (λ (m : ℕ). (s, m)) b

same_both : (x : Scope × ℕ) (s : Scope) (l : ℕ) → (s, l) ≡ x → (is_scope x.0 s && (x.1 == l)) ≡ true
same_both x s l e = subst (λ (y : Scope × ℕ). (is_scope y.0 s && (y.1 == l)) ≡ true) e (rw (same_scope s s refl, number_itself l) refl)

-- a row is one of these or it is not
pub open_or_shut : (rows : List (Scope × ℕ)) (s : Scope) (l : ℕ) → Contains rows (s, l) ⊎ (Contains rows (s, l) → ⊥)
open_or_shut [] s l = inr (λ c. nothing_in (s, l) c)
open_or_shut (x ∷ rows) s l =
    elim (cases_Bool (is_scope x.0 s && (x.1 == l))) [
      | inl e ↦
          let b = both_true (is_scope x.0 s) (x.1 == l) e in
          inl (subst (λ (y : Scope × ℕ). Contains (x ∷ rows) y) (row_is x s l (scope_same x.0 s b.0) (number_same x.1 l b.1)) (Contains-head x rows))
      | inr n ↦ elim (open_or_shut rows s l) [
        | inl k ↦ inl (Contains-tail x (s, l) rows k)
        | inr k ↦ inr (λ c. elim (Contains-cons x (s, l) rows c) [ inl e ↦ cc (same_both x s l e, n) | inr m ↦ k m ])
      ]
    ]

-- the queue from a place on
pub queue_at : {X : Type 0} (queue : List X) (at : ℕ) (w : X) → at < length queue → w ≡ slice_index_or queue at w → drop at queue ≡ w ∷ drop (at + 1) queue
queue_at {X} queue at w l e =
    let k : drop at queue ≡ slice_index_or queue at w ∷ drop (at + 1) queue = rw (add-one) (drop-cons queue at w l) in
    k ∙ ap (λ (x : X). x ∷ drop (at + 1) queue) (sym e)

-- work that is put aside is still left
pub set_aside : {X : Type 0} (blocked queue : List X) (at : ℕ) (w : X) → drop at queue ≡ w ∷ drop (at + 1) queue → (blocked ++ w ∷ []) ++ drop (at + 1) queue ≡ blocked ++ drop at queue
set_aside {X} blocked queue at w e = append_assoc blocked (w ∷ []) (drop (at + 1) queue) ∙ ap (λ (t : List X). blocked ++ t) (sym e)

-- what holds of all that is left holds of the next
pub next_is : {X : Type 0} (P : X → Type 0) (blocked queue left : List X) (at : ℕ) (w : X) → drop at queue ≡ w ∷ drop (at + 1) queue → blocked ++ drop at queue ≡ left → AllByRecursion P left → P w
next_is {X} P blocked queue left at w head same all =
    each_at P left all w (subst (λ (r : List X). Contains r w) (ap (λ (r : List X). blocked ++ r) (sym head) ∙ same) (cut_has blocked (drop (at + 1) queue) w))
