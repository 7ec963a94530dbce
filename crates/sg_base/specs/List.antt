-- Lists without repetition, lists in rising order, and how many things there are of a kind.
use Rattle.std.specs.Prelude.{◌≡◌, ℕ, ◌<◌, List, [], ◌∷◌, length, ◌↔◌}
use Rattle.std.specs.declared.cmp.Ordering.{Ordering}
use Rattle.std.specs.declared.cmp.Ordering.TheVariants.{Less}
use Rattle.std.specs.List.{Contains, AllByRecursion}

-- no two places hold the same thing
abbrev pub IsDistinct : {X : Type 0} → List X → Type 0
IsDistinct [] = Unit {0}
IsDistinct (x ∷ xs) = (Contains xs x → ⊥) × IsDistinct xs

-- each thing of the list is less than all behind it
abbrev pub IsRising : {X : Type 0} → (X → X → Ordering) → List X → Type 0
IsRising cmp [] = Unit {0}
IsRising cmp (x ∷ xs) = AllByRecursion (λ y. cmp x y ≡ Less) xs × IsRising cmp xs

-- there are more than n things of this kind
abbrev pub MoreThan : {X : Type 0} → ℕ → (X → Type 0) → Type 0
MoreThan {X} n P = (xs : List X) × (n < length xs) × IsDistinct xs × AllByRecursion P xs

-- there are exactly n things of this kind
abbrev pub IsCount : {X : Type 0} → ℕ → (X → Type 0) → Type 0
IsCount {X} n P = (xs : List X) × (length xs ≡ n) × IsDistinct xs × ((x : X) → (Contains xs x) ↔ (P x))
