-- Lists that are sorted and in which no two things are equal by the order rise.
use Rattle.std.proofs.Common.{◌≡◌, ◌<◌, ℕ, zero, suc, true, false, List, [], ◌∷◌, length, get_or, refl, sym, ap, ◌∙◌, arith}
use Rattle.std.specs.Cmp.{IsTotalOrder}
use Rattle.std.specs.List.{IsDistinct}
use Rattle.std.specs.List.Sorted.{IsSorted, IsStrictlySortedBy}
use Rattle.std.specs.Ordering.{eq_by_cmp, is_eq, is_lt, ordering_reverse}
use Rattle.std.specs.declared.cmp.Ordering.{Ordering}
use Rattle.std.specs.declared.cmp.Ordering.TheVariants.{Less, Equal, Greater}
use Rattle.std.proofs.lemmas.List.Elements.{recursion_from_All}
use Rattle.std.proofs.lemmas.List.Sorted.{ranks_by, sorted_far}
use Rattle.std.proofs.lemmas.Map.Keys.{apart_from_distinct}

-- an order that is neither equal nor, turned round, less
less_left : (r : Ordering) → is_eq r ≡ false → is_lt (ordering_reverse r) ≡ false → r ≡ Less
less_left Less e l = refl
less_left Equal e l = absurd (let h : true ≡ false = e in cc)
less_left Greater e l = absurd (let h : true ≡ false = l in cc)

module _ {X : Type 0} (R : X → X → Ordering) where
  from_pairs : (xs : List X) → ((i j : ℕ) (d : X) → i < j → j < length xs → R (get_or xs i d) (get_or xs j d) ≡ Less) → IsStrictlySortedBy R xs
  unfolding IsStrictlySortedBy
  from_pairs [] h = tt
  from_pairs (x ∷ xs) h = (
    recursion_from_All (λ y. R x y ≡ Less) xs (λ j d inside. h zero (suc j) d (omega arith) (omega arith)),
    from_pairs xs (λ i j d below inside. h (suc i) (suc j) d (omega arith) (omega arith)),
  )

  pub strictly : IsTotalOrder R → (xs : List X) → IsSorted R xs → IsDistinct (eq_by_cmp R) xs → IsStrictlySortedBy R xs
  strictly o xs sorted distinct =
      from_pairs xs (λ i j d below inside.
      let x : X = get_or xs i d in
      let y : X = get_or xs j d in
      less_left (R x y) (apart_from_distinct (eq_by_cmp R) xs i j d distinct below inside)
      (ap is_lt (sym (o.antisymm y x)) ∙ sorted_far _ (ranks_by o (λ a. a)) xs sorted i j d (omega arith) inside))
