-- Names and their numbers.
use Rattle.std.specs.Prelude.{◌≡◌, ℕ, List, [], ◌∷◌, ◌++◌, Some, slice_get, if◌then◌else◌}
use Rattle.std.specs.List.{list_any}
use Rattle.std.specs.Str.{bytes_eq}

-- a text has one number: no two places have one text
abbrev pub AreDistinct : List (List ℕ) → Type 0
AreDistinct names = (i j : ℕ) (t : List ℕ) → slice_get names i ≡ Some t → slice_get names j ≡ Some t → i ≡ j

-- the names with a text: they stay where it is one of them, else it goes last
abbrev pub with_text : List (List ℕ) → List ℕ → List (List ℕ)
with_text names t = if list_any (bytes_eq t) names then names else names ++ t ∷ []
