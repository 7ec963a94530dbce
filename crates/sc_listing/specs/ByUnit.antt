-- The entries of a log, unit by unit.
use Rattle.std.specs.Prelude.{ℕ, List, [], map, slice_index_or}
use Rattle.std.specs.List.{range_with_len}
use Rattle.sg_unit.specs.Own.{own}
use Rattle.sc_listing.specs.Answers.{JavaEntry}

-- the entries of each of so many units
abbrev pub own_entries : ℕ → List JavaEntry → List (List JavaEntry)
own_entries count log = map (λ u. own u log) (range_with_len 0 count)

-- the entries of a unit, where these are those of each unit
abbrev pub entries_at : List (List JavaEntry) → ℕ → List JavaEntry
entries_at each u = slice_index_or each u []
