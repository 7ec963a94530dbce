-- Found paths that are sorted rise, where no path is there twice.
use Rattle.std.proofs.Common.{◌≡◌, ◌+◌, List, [], ◌∷◌, Bool, true, false, inl, inr, refl, sym, subst, map, get_or, arith}
use Rattle.std.proofs.lemmas.Bool.{cases_Bool}
use Rattle.std.proofs.lemmas.Map.Keys.{IsDistinct-IsPermutation, apart_from_distinct, sorted_from_all_adjacent}
use Rattle.std.specs.Cmp.{IsTotalOrder, on_total}
use Rattle.std.specs.List.{Contains, IsDistinct as AreApart}
use Rattle.std.specs.List.Sorted.{IsPermutation, IsSortedBy}
use Rattle.std.specs.Ordering.{is_eq, is_lt, ordering_reverse}
use Rattle.std.specs.declared.cmp.Ordering.{Ordering}
use Rattle.std.specs.declared.cmp.Ordering.TheVariants.{Less, Equal, Greater}
use Rattle.sg_base.specs.List.{IsDistinct, IsRising}
use Rattle.sg_base.specs.Path.{PathOf, path_cmp, path_total}
use Rattle.sg_base.proofs.Finite.{each_from, each_at, map-Contains, Contains-map}
use Rattle.sg_base.proofs.Rising.{rising_from_sorted}
use Rattle.sg_base.proofs.Scopes.{equal_path}
use Rattle.sg_query.specs.declared.found.Found.{Found}
use Rattle.sg_query.specs.Answer.{found_cmp}

by_order : (o p : Ordering) → o ≡ ordering_reverse p → is_eq o ≡ false → is_lt p ≡ false → o ≡ Less
by_order Less p e a b = refl
by_order Equal p e a b = absurd (cc)
by_order Greater Less e a b = absurd (cc)
by_order Greater Equal e a b = absurd (cc)
by_order Greater Greater e a b = absurd (cc)

flips : (o p : Ordering) → o ≡ ordering_reverse p → is_eq o ≡ is_eq p
flips Less Less e = refl
flips Less Equal e = absurd (cc)
flips Less Greater e = refl
flips Equal Less e = absurd (cc)
flips Equal Equal e = refl
flips Equal Greater e = absurd (cc)
flips Greater Less e = refl
flips Greater Equal e = absurd (cc)
flips Greater Greater e = refl

self_equal : (o : Ordering) → o ≡ ordering_reverse o → is_eq o ≡ true
self_equal Less e = absurd (cc)
self_equal Equal e = refl
self_equal Greater e = absurd (cc)

is_equal : (o : Ordering) → is_eq o ≡ true → o ≡ Equal
is_equal Less e = absurd (cc)
is_equal Equal e = refl
is_equal Greater e = absurd (cc)

module _ {D : Type 0} where
  pub found_total : IsTotalOrder (found_cmp {D = D})
  found_total = on_total (λ f. f.path) path_total

  abbrev alike : Found D → Found D → Bool
  alike f h = is_eq (path_cmp f.path h.path)

  apart : (xs : List (Found D)) → IsDistinct (map (λ f. f.path) xs) → AreApart alike xs
  unfolding AreApart
  apart [] d = tt
  apart (x ∷ xs) d = (
    each_from (λ y. alike x y ≡ false) xs (λ y c. elim (cases_Bool (alike x y)) [
      | inl e ↦ absurd (d.0 (subst (Contains (map (λ f. f.path) xs)) (sym (equal_path x.path y.path (is_equal (path_cmp x.path y.path) e))) (map-Contains (λ (f : Found D). f.path) xs y c)))
      | inr e ↦ e
    ]),
    apart xs d.1,
  )

  distinct : (xs : List (Found D)) → AreApart alike xs → IsDistinct (map (λ f. f.path) xs)
  unfolding AreApart
  distinct [] a = tt
  distinct (x ∷ xs) a = (
    (λ c.
        let m = Contains-map (λ (f : Found D). f.path) xs x.path c in
        let other : is_eq (path_cmp x.path m.0.path) ≡ false = each_at (λ y. alike x y ≡ false) xs a.0 m.0 m.1 in
        let self : is_eq (path_cmp x.path x.path) ≡ false = subst (λ (p : PathOf). is_eq (path_cmp x.path p) ≡ false) (sym m.2) other in
        cc (self, self_equal (path_cmp x.path x.path) (path_total.antisymm x.path x.path))),
    distinct xs a.1,
  )

  pub distinct_sorted : (xs ys : List (Found D)) → IsPermutation xs ys → IsDistinct (map (λ f. f.path) xs) → IsDistinct (map (λ f. f.path) ys)
  distinct_sorted xs ys p d =
      distinct ys (IsDistinct-IsPermutation alike (λ f h. flips (path_cmp f.path h.path) (path_cmp h.path f.path) (path_total.antisymm f.path h.path)) xs ys p (apart xs d))

  pub sorted_rise : (xs ys : List (Found D)) → IsDistinct (map (λ f. f.path) xs) → IsPermutation xs ys → IsSortedBy (λ x y. is_lt (found_cmp x y)) ys → IsRising found_cmp ys
  sorted_rise xs [] d p s = tt
  sorted_rise xs (y ∷ ys) d p s =
      let far : AreApart alike (y ∷ ys) = IsDistinct-IsPermutation alike (λ f h. flips (path_cmp f.path h.path) (path_cmp h.path f.path) (path_total.antisymm f.path h.path)) xs (y ∷ ys) p (apart xs d) in
      rising_from_sorted found_cmp (y ∷ ys) (sorted_from_all_adjacent found_total (y ∷ ys) y (λ k l.
      let a = get_or (y ∷ ys) k y in
      let b = get_or (y ∷ ys) (k + 1) y in
      by_order (found_cmp a b) (found_cmp b a) (path_total.antisymm a.path b.path) (apart_from_distinct alike (y ∷ ys) k (k + 1) y far (omega arith) l) (s k y (omega arith) l)))
