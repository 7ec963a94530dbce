-- The rows of a scope as a list.
use Rattle.std.specs.Prelude.{◌≡◌, ◌<◌, ℕ, List, Option, [], ◌∷◌, length, slice_get, slice_index_or}
use Rattle.std.specs.Borrow.{Lends, MutBor, Fml}
use Rattle.std.specs.BTreeMap.{is_at}
use Rattle.std.specs.Map.{lookup, set_value}
use Rattle.std.specs.Option.{option_map}
use Rattle.std.specs.Ordering.{nat_cmp}
use Rattle.std.specs.Vec.{with_item}
use Rattle.sg_state.specs.declared.row.Row.{Row}
use Rattle.sg_state.specs.declared.rows.Rows.{Rows}
use Rattle.sg_state.specs.declared.rows.Rows.TheVariants.{None, One, Many}
use Rattle.sg_state.specs.contracts.row.Row.{the_row as row_type}
use Rattle.sg_state.specs.contracts.rows.Rows.{the_row as rows_type}

-- the rows with the numbers of their labels
abbrev pub rows_of : Rows → List (ℕ × Row)
rows_of None = []
rows_of (One p) = p ∷ []
rows_of (Many v) = v.items

-- the row that lies at a place
abbrev pub row_in : Rows → ℕ → Option Row
row_in rows at = option_map (λ p. p.1) (slice_get (rows_of rows) at)

-- the rows once the one at a place is this one
abbrev pub with_row : Rows → ℕ → Row → Rows
with_row None at w = None
with_row (One p) at w = One (p.0, w)
with_row (Many v) at w = Many (with_item v at ((slice_index_or v.items at (at, w)).0, w))

-- the rows end with the last value behind r at a place
abbrev pub LendsRow : MutBor Rows → ℕ → MutBor Row → Fml
LendsRow s at r = Lends rows_type row_type s r (with_row s.now at)

-- the row of the label lies at the place
pub record IsRowAt (rows : Rows) (l at : ℕ) : Type 0 where
  pub within : at < length (rows_of rows)
  pub found : lookup (is_at (nat_cmp l)) (rows_of rows) ≡ row_in rows at
  pub written : (w : Row) → rows_of (with_row rows at w) ≡ set_value (is_at (nat_cmp l)) (rows_of rows) w
