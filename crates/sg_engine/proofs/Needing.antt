-- The order of needs, and the needs of blocked work.
use Rattle.std.proofs.Common.{◌≡◌, ℕ, List, [], ◌∷◌, ◌++◌, ◌⊎◌, ◌↔◌, Bool, true, eqb, inl, inr, refl, sym, ap, ◌∙◌, subst}
use Rattle.std.proofs.lemmas.List.Elements.{Contains-append_left, Contains-append_cases, Contains-push}
use Rattle.std.specs.List.{Contains, dedup}
use Rattle.std.specs.List.Sorted.{IsPermutation, IsSorted}
use Rattle.std.specs.Ordering.{nat_cmp}
use Rattle.std.specs.declared.cmp.Ordering.{Ordering}
use Rattle.std.specs.declared.cmp.Ordering.TheVariants.{Equal}
use Rattle.sg_base.specs.declared.scope.Scope.{Scope}
use Rattle.sg_base.specs.List.{IsRising}
use Rattle.sg_base.specs.Scope.{is_scope, scope_cmp}
use Rattle.sg_base.proofs.Finite.{nothing_in, single}
use Rattle.sg_base.proofs.Scopes.{equal_scope, equal_nat, then_equal, scope_same, same_scope, number_same, number_itself, both_true}
use Rattle.sg_state.specs.declared.need.Need.{Need}
use Rattle.sg_state.specs.declared.need.Need.TheVariants.{Row, Datum}
use Rattle.sg_engine.specs.declared.work.Work.{Work}
use Rattle.sg_state.specs.Need.{need_cmp, need_order, need_orders, need_total}
use Rattle.sg_state.specs.contracts.need.NeedPartialEq.TheImpl as derived
use Rattle.sg_state.proofs.EachOnce.{each_once_rises, each_once_holds}

pub equal_need : (a b : Need) → need_cmp a b ≡ Equal → a ≡ b
equal_need (Row s l) (Row t m) e =
    let k = then_equal (scope_cmp s t) (nat_cmp l m) e in
    ap (λ (x : Scope). Row x l) (equal_scope s t k.0) ∙ ap (λ (x : ℕ). Row t x) (equal_nat l m k.1)
equal_need (Row s l) (Datum t) e = absurd (cc)
equal_need (Datum s) (Row t m) e = absurd (cc)
equal_need (Datum s) (Datum t) e = ap (λ (x : Scope). Datum x) (equal_scope s t e)

-- whether two needs are the same, as the code tells it
abbrev pub is_need : Need → Need → Bool
is_need = (derived.ghosts).eq

same_need : (a b : Need) → is_need a b ≡ true → a ≡ b
same_need (Row s l) (Row t m) e =
    let k = both_true (is_scope s t) (eqb l m) e in
    ap (λ (x : Scope). Row x l) (scope_same s t k.0) ∙ ap (λ (x : ℕ). Row t x) (number_same l m k.1)
same_need (Row s l) (Datum t) e = absurd (cc)
same_need (Datum s) (Row t m) e = absurd (cc)
same_need (Datum s) (Datum t) e = ap (λ (x : Scope). Datum x) (scope_same s t e)

need_itself : (a : Need) → is_need a a ≡ true
need_itself (Row s l) = let k = same_scope s s refl in let m = number_itself l in cc
need_itself (Datum s) = same_scope s s refl

-- what is sorted, without what stands twice
module _ (xs ys : List Need) (moved : IsPermutation xs ys) (sorted : IsSorted need_order ys) where
  by_needs : IsSorted need_cmp ys
  by_needs = subst (λ (R : Need → Need → Ordering). IsSorted R ys) need_orders sorted

  pub needs_rise : IsRising need_cmp (dedup is_need ys)
  needs_rise = each_once_rises need_cmp need_total equal_need is_need same_need need_itself xs ys moved by_needs

  pub needs_hold : (n : Need) → (Contains (dedup is_need ys) n) ↔ (Contains xs n)
  needs_hold = each_once_holds need_cmp need_total equal_need is_need same_need need_itself xs ys moved by_needs

-- ---- the needs of a list of work

pub pushed : (xs : List Need) (x n : Need) → (Contains (xs ++ x ∷ []) n) ↔ (Contains xs n ⊎ (n ≡ x))
pushed xs x n = (
  (λ c. elim (Contains-append_cases xs (x ∷ []) n c) [ inl k ↦ inl k | inr k ↦ inr (single x n k) ]),
  (λ h. elim h [
    | inl k ↦ Contains-append_left xs (x ∷ []) n k
    | inr e ↦ subst (λ (y : Need). Contains (xs ++ x ∷ []) y) (sym e) (Contains-push xs x)
  ]),
)

module _ (f : Work → Need) where
  -- the list holds exactly the needs of this work
  abbrev pub Waits : List Work → List Need → Type 0
  Waits ws needs = (n : Need) → (Contains needs n) ↔ ((w : Work) × Contains ws w × (n ≡ f w))

  pub waits_none : Waits [] []
  waits_none n = ((λ c. absurd (nothing_in n c)), (λ k. absurd (nothing_in k.0 k.1)))

  pub waits_more : (ws : List Work) (w : Work) (old new : List Need) → ((n : Need) → (Contains new n) ↔ (Contains old n ⊎ (n ≡ f w))) → Waits ws old → Waits (ws ++ w ∷ []) new
  waits_more ws w old new more was n = (
    (λ c. elim ((more n).0 c) [
      | inl k ↦ let h = (was n).0 k in (h.0, Contains-append_left ws (w ∷ []) h.0 h.1, h.2)
      | inr e ↦ (w, Contains-push ws w, e)
    ]),
    (λ k. (more n).1 (elim (Contains-append_cases ws (w ∷ []) k.0 k.1) [
      | inl h ↦ inl ((was n).1 (k.0, h, k.2))
      | inr h ↦ inr (k.2 ∙ ap f (single w k.0 h))
    ])),
  )
