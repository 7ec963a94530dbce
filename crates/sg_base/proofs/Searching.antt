-- What a binary search finds in a rising list, and what an insertion at the gap that it names does.
use Rattle.std.proofs.Common.{◌≡◌, ℕ, ◌≤◌, List, ◌++◌, ◌⊎◌, ◌↔◌, IsTrue, Result, Ok, Err, inl, inr, refl, sym, subst, length, take, drop, get_or}
use Rattle.std.proofs.lemmas.Cmp.{tied_itself}
use Rattle.std.proofs.lemmas.List.{take-append-drop}
use Rattle.std.proofs.lemmas.List.Elements.{Contains-append_cases, Contains-get_or}
use Rattle.std.specs.Cmp.{IsTotalOrder}
use Rattle.std.specs.List.{Contains, AllByRecursion, insert}
use Rattle.std.specs.List.Sorted.{IsSearchInRange, IsBinarySearchResult}
use Rattle.std.specs.Result.{is_ok}
use Rattle.std.specs.declared.cmp.Ordering.{Ordering}
use Rattle.std.specs.declared.cmp.Ordering.TheVariants.{Less, Equal, Greater}
use Rattle.sg_base.specs.List.{IsRising}
use Rattle.sg_base.proofs.Finite.{each_at, Contains-middle, middle-Contains}
use Rattle.sg_base.proofs.Rising.{answers_rise, each_take, each_drop, Rising-middle}

module _ {X : Type 0} (R : X → X → Ordering) (total : IsTotalOrder R) (equal : (a b : X) → R a b ≡ Equal → a ≡ b) (xs : List X) (rising : IsRising R xs) (x : X) where
  -- the place is between what is less and what is greater
  pub IsGap : ℕ → Type 0
  IsGap at = (at ≤ length xs) × AllByRecursion (λ y. R y x ≡ Less) (take at xs) × AllByRecursion (λ y. R y x ≡ Greater) (drop at xs)

  pub gap_found : (at : ℕ) → IsSearchInRange (Err at) (length xs) → IsBinarySearchResult (λ y. R y x) xs (Err at) → IsGap at
  unfolding IsGap
  gap_found at within parts =
      let p = parts (answers_rise R total xs rising x) in
      (within, each_take (λ y. R y x ≡ Less) xs at within p.0, each_drop (λ y. R y x ≡ Greater) xs at p.1)

  pub gap_without : (at : ℕ) → IsGap at → Contains xs x → ⊥
  unfolding IsGap
  gap_without at gap c =
      elim (Contains-append_cases (take at xs) (drop at xs) x (subst (λ (t : List X). Contains t x) (sym (take-append-drop at xs)) c)) [
        | inl k ↦ cc (each_at (λ y. R y x ≡ Less) (take at xs) gap.1 x k, tied_itself total x)
        | inr k ↦ cc (each_at (λ y. R y x ≡ Greater) (drop at xs) gap.2 x k, tied_itself total x)
      ]

  pub Rising-insert : (at : ℕ) → IsGap at → IsRising R (insert xs at x)
  unfolding IsGap
  Rising-insert at gap =
      Rising-middle R total (take at xs) (drop at xs) x (subst (IsRising R) (sym (take-append-drop at xs)) rising) gap.1 gap.2

  pub Contains-insert : (at : ℕ) (t : X) → (Contains (insert xs at x) t) ↔ (Contains xs t ⊎ (t ≡ x))
  Contains-insert at t =
      let whole : take at xs ++ drop at xs ≡ xs = take-append-drop at xs in (
        (λ c. elim (Contains-middle (take at xs) (drop at xs) x t c) [ inl k ↦ inl (subst (λ (l : List X). Contains l t) whole k) | inr e ↦ inr e ]),
        (λ h. middle-Contains (take at xs) (drop at xs) x t (elim h [ inl k ↦ inl (subst (λ (l : List X). Contains l t) (sym whole) k) | inr e ↦ inr e ])),
      )

  pub found : (r : Result ℕ ℕ) → IsSearchInRange r (length xs) → IsBinarySearchResult (λ y. R y x) xs r → (IsTrue (is_ok r)) ↔ (Contains xs x)
  found (Ok at) within hit = (
    (λ _. subst (λ (t : X). Contains xs t) (equal (get_or xs at x) x (hit x)) (Contains-get_or xs at x within)),
    (λ _. refl),
  )
  found (Err at) within parts = ((λ t. cc), (λ c. absurd (gap_without at (gap_found at within parts) c)))
