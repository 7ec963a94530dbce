-- Where a thing stands in a rising list, and how it is put there.
use Rattle.std.proofs.Common.{◌≡◌, ℕ, zero, suc, ◌<◌, ◌≤◌, List, [], ◌∷◌, ◌++◌, length, take, drop, get_or, refl, ap, ◌∙◌, arith}
use Rattle.std.specs.Cmp.{IsTotalOrder}
use Rattle.std.specs.List.{AllByRecursion}
use Rattle.std.specs.Ordering.{ordering_reverse, match_ordering}
use Rattle.std.specs.declared.cmp.Ordering.{Ordering}
use Rattle.std.specs.declared.cmp.Ordering.TheVariants.{Less, Equal, Greater}
use Rattle.sg_base.specs.List.{IsRising}
use Rattle.sg_base.proofs.Finite.{each_map}
use Rattle.sg_state.specs.Held.{put}

module _ {X : Type 0} (R : X → X → Ordering) where
  pub put_there : (xs : List X) (x : X) (i : ℕ) → i < length xs → ((d : X) → R x (get_or xs i d) ≡ Equal) → ((k : ℕ) (d : X) → k < i → R x (get_or xs k d) ≡ Greater) → put R xs x ≡ xs
  put_there [] x i h e g = absurd (omega arith)
  put_there (y ∷ ys) x zero h e g = ap (λ o. match_ordering o (x ∷ y ∷ ys) (y ∷ ys) (y ∷ put R ys x)) (e y)
  put_there (y ∷ ys) x (suc i) h e g =
      let first : R x y ≡ Greater = g 0 y (omega arith) in
      let rest : put R ys x ≡ ys = put_there ys x i (omega arith) (λ d. e d) (λ k d l. g (suc k) d (omega arith)) in
      ap (λ o. match_ordering o (x ∷ y ∷ ys) (y ∷ ys) (y ∷ put R ys x)) first ∙ ap (λ (zs : List X). y ∷ zs) rest

  pub put_at : (xs : List X) (x : X) (i : ℕ) → i ≤ length xs → ((k : ℕ) (d : X) → k < i → R x (get_or xs k d) ≡ Greater) → ((k : ℕ) (d : X) → i ≤ k → k < length xs → R x (get_or xs k d) ≡ Less) → put R xs x ≡ take i xs ++ x ∷ drop i xs
  put_at [] x zero h g l = refl
  put_at [] x (suc i) h g l = absurd (omega arith)
  put_at (y ∷ ys) x zero h g l = ap (λ o. match_ordering o (x ∷ y ∷ ys) (y ∷ ys) (y ∷ put R ys x)) (l 0 y (omega arith) (omega arith))
  put_at (y ∷ ys) x (suc i) h g l =
      let first : R x y ≡ Greater = g 0 y (omega arith) in
      let rest : put R ys x ≡ take i ys ++ x ∷ drop i ys = put_at ys x i (omega arith) (λ k d a. g (suc k) d (omega arith)) (λ k d a b. l (suc k) d (omega arith) (omega arith)) in
      ap (λ o. match_ordering o (x ∷ y ∷ ys) (y ∷ ys) (y ∷ put R ys x)) first ∙ ap (λ (zs : List X). y ∷ zs) rest

  pub each_put : (P : X → Type 0) (xs : List X) (x : X) → AllByRecursion P xs → P x → AllByRecursion P (put R xs x)
  each_put P [] x a p = (p, tt)
  each_put P (y ∷ ys) x a p =
      elim (R x y) as (λ o. AllByRecursion P (match_ordering o (x ∷ y ∷ ys) (y ∷ ys) (y ∷ put R ys x))) [
        | Less ↦ (p, a)
        | Equal ↦ a
        | Greater ↦ (a.0, each_put P ys x a.1 p)
      ]

  pub each_place : (P : X → Type 0) (xs : List X) → AllByRecursion P xs → (j : ℕ) (d : X) → j < length xs → P (get_or xs j d)
  each_place P [] a j d h = absurd (omega arith)
  each_place P (x ∷ xs) a zero d h = a.0
  each_place P (x ∷ xs) a (suc j) d h = each_place P xs a.1 j d (omega arith)

  pub rising_places : (xs : List X) → IsRising R xs → (i j : ℕ) (d e : X) → i < j → j < length xs → R (get_or xs i d) (get_or xs j e) ≡ Less
  rising_places [] r i j d e h k = absurd (omega arith)
  rising_places (x ∷ xs) r i zero d e h k = absurd (omega arith)
  rising_places (x ∷ xs) r zero (suc j) d e h k = each_place (λ y. R x y ≡ Less) xs r.0 j e (omega arith)
  rising_places (x ∷ xs) r (suc i) (suc j) d e h k = rising_places xs r.1 i j d e (omega arith) (omega arith)

module _ {X : Type 0} (R : X → X → Ordering) (t : IsTotalOrder R) where
  pub Rising-put : (xs : List X) (x : X) → IsRising R xs → IsRising R (put R xs x)
  Rising-put [] x r = (tt, tt)
  Rising-put (y ∷ ys) x r =
      let go : (o : Ordering) → R x y ≡ o → IsRising R (match_ordering o (x ∷ y ∷ ys) (y ∷ ys) (y ∷ put R ys x)) =
      λ o. elim o as (λ o. R x y ≡ o → IsRising R (match_ordering o (x ∷ y ∷ ys) (y ∷ ys) (y ∷ put R ys x))) [
        | Less ↦ λ e. ((e, each_map (λ z. R y z ≡ Less) (λ z. R x z ≡ Less) (λ z l. t.trans x y z e l) ys r.0), r)
        | Equal ↦ λ e. r
        | Greater ↦ λ e. (each_put R (λ z. R y z ≡ Less) ys x r.0 (t.antisymm y x ∙ ap ordering_reverse e), Rising-put ys x r.1)
      ] in
      go (R x y) refl

  -- what is known of a thing on one side of a place at which it was compared
  pub greater_before : (xs : List X) (x : X) → IsRising R xs → (m : ℕ) → m < length xs → (c : X) → R x (get_or xs m c) ≡ Greater → (k : ℕ) (d : X) → k < m → R x (get_or xs k d) ≡ Greater
  greater_before xs x r m h c g k d l =
      let a : R (get_or xs k d) (get_or xs m c) ≡ Less = rising_places R xs r k m d c l h in
      let b : R (get_or xs m c) x ≡ Less = t.antisymm (get_or xs m c) x ∙ ap ordering_reverse g in
      t.antisymm x (get_or xs k d) ∙ ap ordering_reverse (t.trans (get_or xs k d) (get_or xs m c) x a b)

  pub less_behind : (xs : List X) (x : X) → IsRising R xs → (m : ℕ) (c : X) → R x (get_or xs m c) ≡ Less → (k : ℕ) (d : X) → m < k → k < length xs → R x (get_or xs k d) ≡ Less
  less_behind xs x r m c g k d l h = t.trans x (get_or xs m c) (get_or xs k d) g (rising_places R xs r m k c d l h)

  pub equal_before : (xs : List X) (x : X) → IsRising R xs → (m : ℕ) → m < length xs → (c : X) → R x (get_or xs m c) ≡ Equal → (k : ℕ) (d : X) → k < m → R x (get_or xs k d) ≡ Greater
  equal_before xs x r m h c g k d l =
      let a : R (get_or xs k d) (get_or xs m c) ≡ Less = rising_places R xs r k m d c l h in
      t.congr x (get_or xs m c) (get_or xs k d) g ∙ (t.antisymm (get_or xs m c) (get_or xs k d) ∙ ap ordering_reverse a)
