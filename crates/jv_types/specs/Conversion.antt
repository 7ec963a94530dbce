-- Which types convert to which (JLS 4.10, 5.1, 5.2, 5.5).
use Rattle.std.specs.Prelude.{ℕ, ◌-◌, ◌==◌, Bool, true, false, ◌&&◌, ◌||◌, not, cond, nat_lt, nat_le, List}
use Rattle.std.specs.List.{list_any}
use Rattle.sg_base.specs.declared.scope.Scope.{Scope}
use Rattle.sg_base.specs.Scope.{is_scope}
use Rattle.jv_instance.specs.declared.ty.Ty.{Ty}
use Rattle.jv_instance.specs.declared.type_base.TypeBase.{TypeBase}
use Rattle.jv_instance.specs.declared.type_base.TypeBase.TheVariants.{Boolean, Char, Int, Long, Class, Null, Void, Bad}
use Rattle.jv_instance.specs.Types.{is_bad}

-- ---- kinds of types

-- the base is a class or an interface
abbrev pub is_class_base : TypeBase → Bool
is_class_base (Class s) = true
is_class_base Boolean = false
is_class_base Char = false
is_class_base Int = false
is_class_base Long = false
is_class_base Null = false
is_class_base Void = false
is_class_base Bad = false

-- a reference type: a class, an interface or an array
abbrev pub is_reference : Ty → Bool
is_reference t = nat_lt 0 t.dims || is_class_base t.base

-- how wide a numeric type is: char, then int, then long; other types have no width
abbrev pub width : TypeBase → ℕ
width Char = 1
width Int = 2
width Long = 3
width Boolean = 0
width (Class s) = 0
width Null = 0
width Void = 0
width Bad = 0

-- a numeric type: `char`, `int` or `long`, without brackets
abbrev pub is_numeric : Ty → Bool
is_numeric t = (t.dims == 0) && nat_lt 0 (width t.base)

-- the base is that of `null`
abbrev pub is_null_base : TypeBase → Bool
is_null_base Null = true
is_null_base Boolean = false
is_null_base Char = false
is_null_base Int = false
is_null_base Long = false
is_null_base (Class s) = false
is_null_base Void = false
is_null_base Bad = false

-- the type of `null`
abbrev pub is_null : Ty → Bool
is_null t = (t.dims == 0) && is_null_base t.base

-- ---- equal types

-- two bases are the same
abbrev pub is_base : TypeBase → TypeBase → Bool
is_base Boolean Boolean = true
is_base Char Char = true
is_base Int Int = true
is_base Long Long = true
is_base (Class a) (Class b) = is_scope a b
is_base Null Null = true
is_base Void Void = true
is_base Bad Bad = true
is_base a b = false

-- two types are the same: they have the same base, and as many brackets
abbrev pub is_type : Ty → Ty → Bool
is_type a b = is_base a.base b.base && (a.dims == b.dims)

-- ---- subtypes (JLS 4.10)

-- a class is among the supertypes of another
abbrev pub is_above : List Scope → TypeBase → Bool
is_above up (Class s) = list_any (is_scope s) up
is_above up Boolean = false
is_above up Char = false
is_above up Int = false
is_above up Long = false
is_above up Null = false
is_above up Void = false
is_above up Bad = false

-- a class is this one
abbrev pub is_class : Scope → TypeBase → Bool
is_class object (Class s) = is_scope s object
is_class object Boolean = false
is_class object Char = false
is_class object Int = false
is_class object Long = false
is_class object Null = false
is_class object Void = false
is_class object Bad = false

-- a class or an interface is a subtype of its supertypes, and an array with more brackets of `Object` with fewer: of `S[]` and `T[]` the elements
-- decide, so all common brackets are taken off. `up` are the supertypes of the first type's class with itself, and `Object` for an interface
abbrev pub is_subtype : List Scope → Scope → Ty → Ty → Bool
is_subtype up object s t = cond (nat_lt t.dims s.dims) (is_class object t.base) ((s.dims == t.dims) && (is_class_base s.base && is_above up t.base))

-- ---- assignment (JLS 5.2)

-- a numeric type is widened to a wider one (JLS 5.1.2)
abbrev pub widens : Ty → Ty → Bool
widens s t = is_numeric s && (is_numeric t && nat_lt (width s.base) (width t.base))

-- a value of the first type may be assigned to a variable of the second: equal types, a wider numeric type, a supertype, any reference type for
-- `null`; and a bad type both ways
abbrev pub is_assignable : List Scope → Scope → Ty → Ty → Bool
is_assignable up object s t =
    (is_bad s || is_bad t) || (is_type s t || (widens s t || ((is_null s && is_reference t) || is_subtype up object s t)))

-- ---- casts (JLS 5.5)

-- what is known of an operand's type: its supertypes as above, whether its class is an interface, and whether it is final
pub record SideOf : Type 0 where
  pub ty : Ty
  pub up : List Scope
  pub interface : Bool
  pub is_final : Bool

-- of two classes one may be a subclass of both: two interfaces, or an interface and a class that is not final
abbrev pub may_meet : SideOf → SideOf → Bool
may_meet a b = (a.interface || b.interface) && ((a.interface || not a.is_final) && (b.interface || not b.is_final))

-- one type may be assigned to the other
abbrev pub either_way : Scope → SideOf → SideOf → Bool
either_way object a b = is_assignable a.up object a.ty b.ty || is_assignable b.up object b.ty a.ty

-- a type without so many pairs of brackets
abbrev pub element : ℕ → Ty → Ty
element n t = record { base = t.base; dims = t.dims - n }

-- the elements of two arrays
abbrev pub element_side : ℕ → SideOf → SideOf
element_side n s = record { ty = element n s.ty; up = s.up; interface = s.interface; is_final = s.is_final }

-- types without common brackets, of which one may be cast to the other: assignable either way, two numeric types, or two classes that may meet
abbrev pub are_castable_bare : Scope → SideOf → SideOf → Bool
are_castable_bare object a b =
    either_way object a b || ((is_numeric a.ty && is_numeric b.ty) || (((a.ty.dims == 0) && (b.ty.dims == 0)) && ((is_class_base a.ty.base && is_class_base b.ty.base) && may_meet a b)))

-- the lesser of two numbers
abbrev pub lesser : ℕ → ℕ → ℕ
lesser m n = cond (nat_le m n) m n

-- one type may be cast to the other: as above, or both are arrays whose elements are reference types of which one may be cast to the other
abbrev pub are_castable : Scope → SideOf → SideOf → Bool
are_castable object a b =
    are_castable_bare object a b
    || ((is_reference (element (lesser a.ty.dims b.ty.dims) a.ty) && is_reference (element (lesser a.ty.dims b.ty.dims) b.ty))
    && are_castable_bare object (element_side (lesser a.ty.dims b.ty.dims) a) (element_side (lesser a.ty.dims b.ty.dims) b))
