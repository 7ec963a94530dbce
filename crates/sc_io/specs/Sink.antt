-- What a sink tells of what was written.
use Rattle.std.specs.Prelude.{◌≡◌, ℕ, List, ◌++◌, Option, Some, None}

-- the whole piece was written behind what was there
abbrev pub AddsAll : Option (List ℕ) → List ℕ → Option (List ℕ) → Type 0
AddsAll None piece after = after ≡ None
AddsAll (Some before) piece after = after ≡ Some (before ++ piece)

-- a front of the piece was written behind what was there: nothing, all of it or a part
abbrev pub AddsFront : Option (List ℕ) → List ℕ → Option (List ℕ) → Type 0
AddsFront None piece after = after ≡ None
AddsFront (Some before) piece after = (front : List ℕ) × (rest : List ℕ) × (piece ≡ front ++ rest) × (after ≡ Some (before ++ front))
