-- Lists of entries, oldest first.
use Rattle.std.specs.Prelude.{◌≡◌, ℕ, ◌==◌, List, ◌++◌, filter}

-- the list goes on from what was seen
abbrev pub Begins : {E : Type 0} → List E → List E → Type 0
Begins {E} seen entries = (rest : List E) × (entries ≡ seen ++ rest)

-- the entries that name the seat n, in their order
abbrev pub told_by : {E : Type 0} → (E → ℕ) → ℕ → List E → List E
told_by teller n entries = filter (λ e. teller e == n) entries
