-- Whether two parts of rows are the same.
use Rattle.std.specs.Prelude.{Bool}
use Rattle.sg_state.specs.contracts.part.PartPartialEq.TheImpl as derived
use Rattle.sg_state.specs.declared.part.Part.{Part}

-- whether two parts are the same
abbrev pub is_part : Part → Part → Bool
is_part = (derived.ghosts).eq
