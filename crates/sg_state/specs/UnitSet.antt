-- The units of a small set.
use Rattle.std.specs.Prelude.{ℕ, List, [], ◌∷◌}
use Rattle.sg_state.specs.declared.unit_set.Units.{Units}
use Rattle.sg_state.specs.declared.unit_set.Units.TheVariants.{None, One, Many}

-- the units as a list
abbrev pub units_of : Units → List ℕ
units_of None = []
units_of (One u) = u ∷ []
units_of (Many b) = b.value.items
