-- The numbers below n, and lists with one thing for each of them.
use Rattle.std.proofs.Common.{◌≡◌, ℕ, zero, suc, ◌+◌, ◌<◌, ◌≤◌, List, ◌++◌, inl, inr, map, sym, ◌∙◌, subst, zero-add, arith}
use Rattle.std.specs.List.{Contains, range_with_len}
use Rattle.std.proofs.lemmas.List.Elements.{Contains-append_cases}
use Rattle.std.proofs.lemmas.List.FromFn.{length-range_with_len, get_or-range_with_len}
use Rattle.sg_base.specs.List.{IsDistinct}
use Rattle.sg_base.proofs.Finite.{map-Contains, Contains-map, Distinct-map}
use Rattle.jv_layout.specs.Skeleton.{below}

in_below : (n k : ℕ) → k < n → Contains (below n) k
in_below n k h = (k, omega (arith, length-range_with_len 0 n), get_or-range_with_len 0 n k k h ∙ zero-add k)

from_range : (a n k : ℕ) → Contains (range_with_len a n) k → (a ≤ k) × (k < a + n)
from_range a n k c =
    let i : ℕ = c.0 in
    let l : i < n = omega (arith, c.1, length-range_with_len a n) in
    let e : a + i ≡ k = sym (get_or-range_with_len a n i k l) ∙ c.2 in
    (omega arith, omega arith)

distinct_range : (a n : ℕ) → IsDistinct (range_with_len a n)
distinct_range a zero = tt
distinct_range a (suc n) = ((λ c. let h = from_range (a + 1) n a c in absurd (omega (arith, h.0))), distinct_range (a + 1) n)

pub from_below : (n k : ℕ) → Contains (below n) k → k < n
from_below n k c = let h = from_range 0 n k c in omega (arith, h.1)

-- what holds of each thing of a list
module _ {X : Type 0} (P : X → Type 0) where
  abbrev pub Each : List X → Type 0
  Each xs = (x : X) → Contains xs x → P x

  pub each_joined : (xs ys : List X) → Each xs → Each ys → Each (xs ++ ys)
  each_joined xs ys f g x c = elim (Contains-append_cases xs ys x c) [ inl k ↦ f x k | inr k ↦ g x k ]

  pub each_image : {K : Type 0} (f : K → X) (ks : List K) → ((k : K) → Contains ks k → P (f k)) → Each (map f ks)
  each_image f ks g x c = let h = Contains-map f ks x c in subst P (sym h.2) (g h.0 h.1)

module _ {X : Type 0} (f : ℕ → X) (n : ℕ) where
  pub in_image : (k : ℕ) → k < n → Contains (map f (below n)) (f k)
  in_image k h = map-Contains f (below n) k (in_below n k h)

  pub from_image : (x : X) → Contains (map f (below n)) x → (k : ℕ) × (k < n) × (x ≡ f k)
  from_image x c =
      let h = Contains-map f (below n) x c in
      let l = from_range 0 n h.0 h.1 in
      (h.0, omega (arith, l.1), h.2)

  pub distinct_image : ((a b : ℕ) → f a ≡ f b → a ≡ b) → IsDistinct (map f (below n))
  distinct_image once = Distinct-map f (below n) (distinct_range 0 n) (λ a b c k e. once a b e)
