-- Lists in rising order, by any total order.
use Rattle.std.proofs.Common.{◌≡◌, ℕ, zero, suc, ◌≤◌, List, [], ◌∷◌, ◌++◌, ◌⊎◌, ◌↔◌, Bool, cond, inl, inr, refl, sym, ap, ◌∙◌, subst, length, take, drop, get_or, arith}
use Rattle.std.proofs.lemmas.Bool.{cases_Bool}
use Rattle.std.proofs.lemmas.Cmp.{alike_right}
use Rattle.std.proofs.lemmas.List.Elements.{Contains-get_or}
use Rattle.std.specs.Cmp.{IsTotalOrder}
use Rattle.std.specs.List.{Contains, AllByRecursion, AllWithin, filter}
use Rattle.std.specs.List.Sorted.{IsNonDecreasingBy, IsStrictlySortedBy}
use Rattle.std.specs.Ordering.{ordering_index, ordering_reverse}
use Rattle.std.specs.declared.cmp.Ordering.{Ordering}
use Rattle.std.specs.declared.cmp.Ordering.TheVariants.{Less, Equal, Greater}
use Rattle.sg_base.specs.List.{IsDistinct, IsRising}
use Rattle.sg_base.proofs.Finite.{nothing_in, Contains-head, Contains-cons, Contains-tail, Contains-filter, each_map, each_from, each_at, each_append}

pub rising_from_sorted : {X : Type 0} (R : X → X → Ordering) (xs : List X) → IsStrictlySortedBy R xs → IsRising R xs
unfolding IsStrictlySortedBy
rising_from_sorted R [] h = tt
rising_from_sorted R (x ∷ xs) h = (h.0, rising_from_sorted R xs h.1)

module _ {X : Type 0} (R : X → X → Ordering) where
  pub Rising-filter : (p : X → Bool) (xs : List X) → IsRising R xs → IsRising R (filter p xs)
  Rising-filter p [] r = tt
  Rising-filter p (x ∷ xs) r =
      let rest : IsRising R (filter p xs) = Rising-filter p xs r.1 in
      let above : AllByRecursion (λ y. R x y ≡ Less) (filter p xs) =
      each_from (λ y. R x y ≡ Less) (filter p xs) (λ y c. each_at (λ y. R x y ≡ Less) xs r.0 y (Contains-filter p xs y c).0) in
      elim (cases_Bool (p x)) [
        | inl e ↦ subst (λ (b : Bool). IsRising R (cond b (x ∷ filter p xs) (filter p xs))) (sym e) (above, rest)
        | inr e ↦ subst (λ (b : Bool). IsRising R (cond b (x ∷ filter p xs) (filter p xs))) (sym e) rest
      ]

  pub Rising-append : (xs ys : List X) → IsRising R xs → IsRising R ys → ((x y : X) → Contains xs x → Contains ys y → R x y ≡ Less) → IsRising R (xs ++ ys)
  Rising-append [] ys r s below = s
  Rising-append (x ∷ xs) ys r s below = (
    each_append (λ y. R x y ≡ Less) xs ys r.0 (each_from (λ y. R x y ≡ Less) ys (λ y c. below x y (Contains-head x xs) c)),
    Rising-append xs ys r.1 s (λ a b k l. below a b (Contains-tail x a xs k) l),
  )

  -- of two things of a rising list that are not one, one is less
  pub rising_apart : (xs : List X) → IsRising R xs → (x y : X) → Contains xs x → Contains xs y → (x ≡ y) ⊎ ((R x y ≡ Less) ⊎ (R y x ≡ Less))
  rising_apart [] r x y c d = absurd (nothing_in x c)
  rising_apart (z ∷ xs) r x y c d =
      elim (Contains-cons z x xs c) [
        | inl e ↦ elim (Contains-cons z y xs d) [
          | inl f ↦ inl (e ∙ sym f)
          | inr l ↦ inr (inl (subst (λ (t : X). R t y ≡ Less) (sym e) (each_at (λ w. R z w ≡ Less) xs r.0 y l)))
        ]
        | inr k ↦ elim (Contains-cons z y xs d) [
          | inl f ↦ inr (inr (subst (λ (t : X). R t x ≡ Less) (sym f) (each_at (λ w. R z w ≡ Less) xs r.0 x k)))
          | inr l ↦ rising_apart xs r.1 x y k l
        ]
      ]

module _ {X : Type 0} (R : X → X → Ordering) (total : IsTotalOrder R) where
  pub turned : (x y : X) → R y x ≡ Greater → R x y ≡ Less
  turned x y e = total.antisymm x y ∙ ap ordering_reverse e

  pub never : (x y : X) → R x y ≡ Less → R y x ≡ Less → ⊥
  never x y a b =
      let back : R x y ≡ Greater = total.antisymm x y ∙ ap ordering_reverse b in
      cc

  pub irreflexive : (x : X) → R x x ≡ Less → ⊥
  irreflexive x a = never x x a a

  pub Distinct-rising : (xs : List X) → IsRising R xs → IsDistinct xs
  Distinct-rising [] r = tt
  Distinct-rising (x ∷ xs) r = ((λ c. irreflexive x (each_at (λ y. R x y ≡ Less) xs r.0 x c)), Distinct-rising xs r.1)

  all_above : (x y : X) → R x y ≡ Less → (ys : List X) → AllByRecursion (λ z. R y z ≡ Less) ys → AllByRecursion (λ z. R x z ≡ Less) ys
  all_above x y l ys h = each_map (λ z. R y z ≡ Less) (λ z. R x z ≡ Less) (λ z k. total.trans x y z l k) ys h

  all_middle : (P : X → Type 0) (xs ys : List X) (x : X) → AllByRecursion P (xs ++ ys) → P x → AllByRecursion P (xs ++ x ∷ ys)
  all_middle P [] ys x a p = (p, a)
  all_middle P (y ∷ xs) ys x a p = (a.0, all_middle P xs ys x a.1 p)

  -- one more thing in its place
  pub Rising-middle : (xs ys : List X) (x : X) → IsRising R (xs ++ ys) → AllByRecursion (λ y. R y x ≡ Less) xs → AllByRecursion (λ y. R y x ≡ Greater) ys → IsRising R (xs ++ x ∷ ys)
  Rising-middle [] [] x r a b = (tt, tt)
  Rising-middle [] (y ∷ ys) x r a b = ((turned x y b.0, all_above x y (turned x y b.0) ys r.0), r)
  Rising-middle (z ∷ xs) ys x r a b = (all_middle (λ w. R z w ≡ Less) xs ys x r.0 a.0, Rising-middle xs ys x r.1 a.1 b)

  by_case : (a b x : X) → R a b ≡ Less → (o p : Ordering) → R a x ≡ o → R b x ≡ p → ordering_index o ≤ ordering_index p
  by_case a b x l Less Less e f = omega arith
  by_case a b x l Less Equal e f = omega arith
  by_case a b x l Less Greater e f = omega arith
  by_case a b x l Equal Less e f = let k : R a x ≡ Less = total.trans a b x l f in absurd (cc)
  by_case a b x l Equal Equal e f = omega arith
  by_case a b x l Equal Greater e f = omega arith
  by_case a b x l Greater Less e f = let k : R a x ≡ Less = total.trans a b x l f in absurd (cc)
  by_case a b x l Greater Equal e f = let k : R a b ≡ R a x = alike_right total b x a f in absurd (cc)
  by_case a b x l Greater Greater e f = omega arith

  -- the answers of a search for x rise along the list
  pub answers_rise : (xs : List X) → IsRising R xs → (x : X) → IsNonDecreasingBy (λ y. ordering_index (R y x)) xs
  answers_rise [] r x i j d le l = absurd (omega arith)
  answers_rise (y ∷ xs) r x zero zero d le l = omega arith
  answers_rise (y ∷ xs) r x zero (suc j) d le l =
      by_case y (get_or xs j d) x (each_at (λ z. R y z ≡ Less) xs r.0 (get_or xs j d) (Contains-get_or xs j d (omega arith))) (R y x) (R (get_or xs j d) x) refl refl
  answers_rise (y ∷ xs) r x (suc i) zero d le l = absurd (omega arith)
  answers_rise (y ∷ xs) r x (suc i) (suc j) d le l = answers_rise xs r.1 x i j d (omega arith) (omega arith)

  -- two rising lists that hold the same things are one
  pub rising_one : (fs hs : List X) → IsRising R fs → IsRising R hs → ((x : X) → (Contains fs x) ↔ (Contains hs x)) → fs ≡ hs
  rising_one [] [] r s same = refl
  rising_one [] (h ∷ hs) r s same = absurd (nothing_in h ((same h).1 (Contains-head h hs)))
  rising_one (f ∷ fs) [] r s same = absurd (nothing_in f ((same f).0 (Contains-head f fs)))
  rising_one (f ∷ fs) (h ∷ hs) r s same =
      let first : f ≡ h =
      elim (Contains-cons h f hs ((same f).0 (Contains-head f fs))) [
        | inl e ↦ e
        | inr k ↦ elim (Contains-cons f h fs ((same h).1 (Contains-head h hs))) [
          | inl e ↦ sym e
          | inr m ↦ absurd (never f h (each_at (λ x. R f x ≡ Less) fs r.0 h m) (each_at (λ x. R h x ≡ Less) hs s.0 f k))
        ]
      ] in
      let lower : (x : X) → Contains fs x → Contains hs x =
      λ x k. elim (Contains-cons h x hs ((same x).0 (Contains-tail f x fs k))) [
        | inl e ↦ let less : R f f ≡ Less = subst (λ (t : X). R f t ≡ Less) (e ∙ sym first) (each_at (λ y. R f y ≡ Less) fs r.0 x k) in absurd (irreflexive f less)
        | inr m ↦ m
      ] in
      let upper : (x : X) → Contains hs x → Contains fs x =
      λ x k. elim (Contains-cons f x fs ((same x).1 (Contains-tail h x hs k))) [
        | inl e ↦ let less : R h h ≡ Less = subst (λ (t : X). R h t ≡ Less) (e ∙ first) (each_at (λ y. R h y ≡ Less) hs s.0 x k) in absurd (irreflexive h less)
        | inr m ↦ m
      ] in
      let rest : fs ≡ hs = rising_one fs hs r.1 s.1 (λ x. (lower x, upper x)) in
      cc

-- what holds at each place below i holds of the first i things, and what holds from i on of the others
pub each_take : {X : Type 0} (P : X → Type 0) (xs : List X) (i : ℕ) → i ≤ length xs → AllWithin P xs 0 i → AllByRecursion P (take i xs)
each_take P [] zero l h = tt
each_take P [] (suc i) l h = absurd (omega arith)
each_take P (x ∷ xs) zero l h = tt
each_take P (x ∷ xs) (suc i) l h = (h 0 x (omega arith) (omega arith), each_take P xs i (omega arith) (λ k d a b. h (suc k) d (omega arith) (omega arith)))

pub each_drop : {X : Type 0} (P : X → Type 0) (xs : List X) (i : ℕ) → AllWithin P xs i (length xs) → AllByRecursion P (drop i xs)
each_drop P [] zero h = tt
each_drop P [] (suc i) h = tt
each_drop P (x ∷ xs) zero h = (h 0 x (omega arith) (omega arith), each_drop P xs zero (λ k d a b. h (suc k) d (omega arith) (omega arith)))
each_drop P (x ∷ xs) (suc i) h = each_drop P xs i (λ k d a b. h (suc k) d (omega arith) (omega arith))
