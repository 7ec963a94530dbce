-- When a type is bad.
use Rattle.std.specs.Prelude.{◌≡◌, Bool, true, false}
use Rattle.jv_instance.specs.declared.ty.Ty.{Ty}
use Rattle.jv_instance.specs.declared.type_base.TypeBase.{TypeBase}
use Rattle.jv_instance.specs.declared.type_base.TypeBase.TheVariants.{Bad}

-- the base is bad
abbrev pub is_bad_base : TypeBase → Bool
is_bad_base Bad = true
is_bad_base b = false

-- a type is bad where its base is, whatever its brackets
abbrev pub is_bad : Ty → Bool
is_bad t = is_bad_base t.base

-- the type is bad
abbrev pub IsBad : Ty → Type 0
IsBad t = t.base ≡ Bad
