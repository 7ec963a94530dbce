-- Lists that are sorted, without what stands twice.
use Rattle.std.proofs.Common.{◌≡◌, List, ◌↔◌, Bool, true, inl, inr, refl, sym, ap, ◌∙◌, subst}
use Rattle.std.proofs.lemmas.Bool.{cases_Bool}
use Rattle.std.proofs.lemmas.Cmp.{tied_itself}
use Rattle.std.proofs.lemmas.List.Kept.{IsStrictlySortedBy-dedup, Contains-from_dedup, Contains-dedup}
use Rattle.std.proofs.lemmas.List.Sorted.{Contains-permutation, IsPermutation-sym}
use Rattle.std.specs.Cmp.{IsTotalOrder, IsEquivalence}
use Rattle.std.specs.List.{Contains, dedup}
use Rattle.std.specs.List.Sorted.{IsPermutation, IsSorted}
use Rattle.std.specs.Ordering.{is_eq, eq_by_cmp}
use Rattle.std.specs.declared.cmp.Ordering.{Ordering}
use Rattle.std.specs.declared.cmp.Ordering.TheVariants.{Equal}
use Rattle.sg_base.specs.List.{IsRising}
use Rattle.sg_base.proofs.Rising.{rising_from_sorted}
use Rattle.sg_base.proofs.Rows.{equal_of}

module _ {X : Type 0} (R : X → X → Ordering) (total : IsTotalOrder R) (equal : (a b : X) → R a b ≡ Equal → a ≡ b) (E : X → X → Bool) (same : (a b : X) → E a b ≡ true → a ≡ b) (itself : (a : X) → E a a ≡ true) where
  ties : (a b : X) → E a b ≡ eq_by_cmp R a b
  ties a b =
      elim (cases_Bool (E a b)) [
        | inl e ↦ e ∙ sym (subst (λ (x : X). is_eq (R a x) ≡ true) (same a b e) (ap is_eq (tied_itself total a)))
        | inr e ↦ elim (cases_Bool (is_eq (R a b))) [
          | inl k ↦ let yes : E a b ≡ true = subst (λ (x : X). E a x ≡ true) (equal a b (equal_of (R a b) k)) (itself a) in absurd (cc)
          | inr k ↦ e ∙ sym k
        ]
      ]

  turned : (a b : X) → E a b ≡ true → E b a ≡ true
  turned a b e = subst (λ (x : X). E x a ≡ true) (same a b e) (itself a)

  equals : IsEquivalence E
  equals = record {
    refl = itself;
    symm = λ a b. elim (cases_Bool (E a b)) [
      | inl e ↦ e ∙ sym (turned a b e)
      | inr e ↦ elim (cases_Bool (E b a)) [ inl k ↦ let yes = turned b a k in absurd (cc) | inr k ↦ e ∙ sym k ]
    ];
    congr = λ a b c e. subst (λ (x : X). E a c ≡ E x c) (same a b e) refl;
  }

  module _ (xs ys : List X) (moved : IsPermutation xs ys) (sorted : IsSorted R ys) where
    pub each_once_rises : IsRising R (dedup E ys)
    each_once_rises = rising_from_sorted R (dedup E ys) (IsStrictlySortedBy-dedup total ties ys sorted)

    pub each_once_holds : (x : X) → (Contains (dedup E ys) x) ↔ (Contains xs x)
    each_once_holds x = (
      (λ c. Contains-permutation ys xs x (IsPermutation-sym xs ys moved) (Contains-from_dedup E ys x c)),
      (λ c. Contains-dedup equals same ys x (Contains-permutation xs ys x moved c)),
    )
