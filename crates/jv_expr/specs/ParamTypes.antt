-- The types of parameters, one after another.
use Rattle.std.specs.Prelude.{List, [], ◌∷◌}
use Rattle.jv_instance.specs.declared.ty.Ty.{Ty}
use Rattle.jv_types.specs.Operators.{bad_type}

-- the first of these types; where there is none, a bad one
abbrev pub first_type : List Ty → Ty
first_type [] = bad_type
first_type (t ∷ ts) = t

-- those behind the first
abbrev pub rest_types : List Ty → List Ty
rest_types [] = []
rest_types (t ∷ ts) = ts
