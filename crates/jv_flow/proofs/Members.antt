-- Members of lists.
use Rattle.std.proofs.Common.{◌≡◌, ℕ, zero, suc, ◌<◌, ◌⊎◌, List, [], ◌∷◌, length, map, get_or, inl, inr, refl, sym, arith}
use Rattle.std.specs.List.{Contains}

pub none_in : {X : Type 0} {A : Type 0} (y : X) → Contains [] y → A
none_in y h = absurd (let l = h.1 in omega arith)

module _ {X : Type 0} where
  pub first_in : (x : X) (xs : List X) → Contains (x ∷ xs) x
  first_in x xs = (0, omega arith, refl)

  pub later_in : (x y : X) (xs : List X) → Contains xs y → Contains (x ∷ xs) y
  later_in x y xs h = (suc h.0, (let l = h.1 in omega arith), h.2)

  pub cases_in : (x y : X) (xs : List X) → Contains (x ∷ xs) y → (x ≡ y) ⊎ Contains xs y
  cases_in x y xs h = at h.0 h.1 h.2
    where
      at : (k : ℕ) → k < length (x ∷ xs) → get_or (x ∷ xs) k y ≡ y → (x ≡ y) ⊎ Contains xs y
      at zero l e = inl e
      at (suc k) l e = inr (k, omega arith, e)

  pub in_mapped : {Y : Type 0} (f : X → Y) (xs : List X) (x : X) → Contains xs x → Contains (map f xs) (f x)
  in_mapped f xs x h = at xs h.0 h.1 h.2
    where
      at : (xs : List X) (k : ℕ) → k < length xs → get_or xs k x ≡ x → Contains (map f xs) (f x)
      at [] k l e = absurd (omega arith)
      at (z ∷ xs) zero l e = (0, omega arith, cc)
      at (z ∷ xs) (suc k) l e = let h = at xs k (omega arith) e in (suc h.0, (let m = h.1 in omega arith), h.2)

-- what is mapped is the image of a member
pub from_mapped : {X Y : Type 0} (f : X → Y) (xs : List X) (y : Y) → Contains (map f xs) y → (x : X) × Contains xs x × (y ≡ f x)
from_mapped f [] y h = none_in y h
from_mapped f (x ∷ xs) y h = elim (cases_in (f x) y (map f xs) h) [
  | inl e ↦ (x, first_in x xs, sym e)
  | inr c ↦ let u = from_mapped f xs y c in (u.0, later_in x u.0 xs u.1, u.2)
]
