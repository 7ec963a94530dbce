-- What is known of an operand, without places in memory.
use Rattle.jv_types.specs.declared.side.Side.{Side}
use Rattle.jv_types.specs.Conversion.{SideOf}

-- what is known of an operand, with the supertypes behind the reference
abbrev pub side_of : Side → SideOf
side_of s = record { ty = s.ty; up = s.up.now; interface = s.interface; is_final = s.is_final }
