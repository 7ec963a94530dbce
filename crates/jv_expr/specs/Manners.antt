-- What contracts see of the manner of a call.
use Rattle.jv_expr.specs.declared.manner.Manner.{Manner as CallManner}
use Rattle.jv_expr.specs.Calls.{Manner}

-- the plain data of the manner of a call of the code
abbrev pub manner_of : CallManner → Manner
manner_of how = record { through = how.through; free = how.free; concrete = how.concrete; on_value = how.on_value }
