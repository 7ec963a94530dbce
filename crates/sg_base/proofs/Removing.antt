-- A rising list without one of its places.
use Rattle.std.proofs.Common.{◌≡◌, ℕ, zero, suc, ◌<◌, List, [], ◌∷◌, ◌++◌, inl, inr, sym, ◌∙◌, subst, length, take, drop, get_or, arith}
use Rattle.std.proofs.lemmas.Cmp.{tied_itself}
use Rattle.std.specs.Cmp.{IsTotalOrder}
use Rattle.std.specs.List.{Contains, AllByRecursion}
use Rattle.std.specs.declared.cmp.Ordering.{Ordering}
use Rattle.std.specs.declared.cmp.Ordering.TheVariants.{Less, Equal}
use Rattle.sg_base.specs.List.{IsRising}
use Rattle.sg_base.proofs.Finite.{Contains-head, Contains-cons, Contains-tail, each_from, each_at}

module _ {X : Type 0} (R : X → X → Ordering) (total : IsTotalOrder R) where
  above : (x y : X) (xs : List X) → AllByRecursion (λ z. R x z ≡ Less) xs → Contains xs y → y ≡ x → ⊥
  above x y xs h c e =
      let less : R x y ≡ Less = each_at (λ z. R x z ≡ Less) xs h y c in
      let itself : R x y ≡ Equal = subst (λ (z : X). R x z ≡ Equal) (sym e) (tied_itself total x) in
      cc

  pub without_from : (xs : List X) (at : ℕ) (x : X) → at < length xs → get_or xs at x ≡ x → IsRising R xs → (v : X) → Contains (take at xs ++ drop (suc at) xs) v → Contains xs v × (v ≡ x → ⊥)
  without_from [] at x l e r v c = absurd (omega arith)
  without_from (y ∷ ys) zero x l e r v c = (Contains-tail y v ys c, (λ s. above y v ys r.0 c (s ∙ sym e)))
  without_from (y ∷ ys) (suc k) x l e r v c =
      elim (Contains-cons y v (take k ys ++ drop (suc k) ys) c) [
        | inl h ↦ (
          subst (λ (t : X). Contains (y ∷ ys) t) (sym h) (Contains-head y ys),
          (λ s. above y x ys r.0 (k, omega arith, e) (sym s ∙ h)),
        )
        | inr m ↦ let h = without_from ys k x (omega arith) e r.1 v m in (Contains-tail y v ys h.0, h.1)
      ]

  pub without_to : (xs : List X) (at : ℕ) (x : X) → at < length xs → get_or xs at x ≡ x → (v : X) → Contains xs v → (v ≡ x → ⊥) → Contains (take at xs ++ drop (suc at) xs) v
  without_to [] at x l e v c n = absurd (omega arith)
  without_to (y ∷ ys) zero x l e v c n = elim (Contains-cons y v ys c) [ inl h ↦ absurd (n (h ∙ e)) | inr m ↦ m ]
  without_to (y ∷ ys) (suc k) x l e v c n =
      elim (Contains-cons y v ys c) [
        | inl h ↦ subst (λ (t : X). Contains (y ∷ (take k ys ++ drop (suc k) ys)) t) (sym h) (Contains-head y (take k ys ++ drop (suc k) ys))
        | inr m ↦ Contains-tail y v (take k ys ++ drop (suc k) ys) (without_to ys k x (omega arith) e v m n)
      ]

  pub without_rises : (xs : List X) (at : ℕ) (x : X) → at < length xs → get_or xs at x ≡ x → IsRising R xs → IsRising R (take at xs ++ drop (suc at) xs)
  without_rises [] at x l e r = absurd (omega arith)
  without_rises (y ∷ ys) zero x l e r = r.1
  without_rises (y ∷ ys) (suc k) x l e r = (
    each_from (λ z. R y z ≡ Less) (take k ys ++ drop (suc k) ys) (λ z c. each_at (λ w. R y w ≡ Less) ys r.0 z (without_from ys k x (omega arith) e r.1 z c).0),
    without_rises ys k x (omega arith) e r.1,
  )
