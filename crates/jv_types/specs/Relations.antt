-- Subtypes, assignment and casts as the rules of the language have them, a constructor for each sentence (JLS 4.10, 5.1, 5.2, 5.5).
use Rattle.std.specs.Prelude.{◌≡◌, suc, false, List, IsTrue}
use Rattle.std.specs.List.{Contains}
use Rattle.sg_base.specs.declared.scope.Scope.{Scope}
use Rattle.jv_instance.specs.declared.ty.Ty.{Ty}
use Rattle.jv_instance.specs.declared.type_base.TypeBase.TheVariants.{Char, Int, Long, Class, Null}
use Rattle.jv_instance.specs.Types.{IsBad}
use Rattle.jv_types.specs.Conversion.{SideOf}
use Rattle.jv_types.specs.Operators.{plain}

-- ---- kinds of types

-- the array whose elements have this type
abbrev pub array_of : Ty → Ty
array_of t = record { base = t.base; dims = suc t.dims }

-- numeric types (JLS 4.2)
pub data IsNumeric : Ty → Type 0 where
  -- `char` is numeric.
  char_is_numeric : IsNumeric (plain Char)
  -- `int` is numeric.
  int_is_numeric : IsNumeric (plain Int)
  -- `long` is numeric.
  long_is_numeric : IsNumeric (plain Long)

-- classes and interfaces, without brackets (JLS 8.1, 9.1)
pub data IsClassOrInterface : Ty → Type 0 where
  -- A class or an interface is a scope.
  by_scope : {c : Scope} → IsClassOrInterface (plain (Class c))

-- reference types (JLS 4.3)
pub data IsReference : Ty → Type 0 where
  -- A class or an interface is a reference type.
  declared_is_reference : {t : Ty} → IsClassOrInterface t → IsReference t
  -- An array is a reference type.
  array_is_reference : {t : Ty} → IsReference (array_of t)

-- ---- subtypes (JLS 4.10)

-- The first type is a subtype of the second. `up` are the supertypes of the first one's class, or of the class of its elements, with that class,
-- and with `Object` for an interface.
pub data IsSubtype (up : List Scope) (object : Scope) : Ty → Ty → Type 0 where
  -- A class or an interface is a subtype of its supertypes (JLS 4.10.2).
  of_supertype : {c d : Scope} → Contains up d → IsSubtype up object (plain (Class c)) (plain (Class d))
  -- An array is a subtype of `Object` (JLS 4.10.3).
  of_object : {t : Ty} → IsSubtype up object (array_of t) (plain (Class object))
  -- `S[]` is a subtype of `T[]` where `S` and `T` are reference types and `S` is a subtype of `T` (JLS 4.10.3).
  of_arrays : {s t : Ty} → IsReference s → IsReference t → IsSubtype up object s t → IsSubtype up object (array_of s) (array_of t)

-- ---- assignment (JLS 5.2)

-- the first type widens to the second (JLS 5.1.2)
pub data Widens : Ty → Ty → Type 0 where
  -- `char` widens to `int`.
  char_to_int : Widens (plain Char) (plain Int)
  -- `char` widens to `long`.
  char_to_long : Widens (plain Char) (plain Long)
  -- `int` widens to `long`.
  int_to_long : Widens (plain Int) (plain Long)

-- A value of the first type may be assigned to a variable of the second. `up` are the supertypes as above.
pub data IsAssignable (up : List Scope) (object : Scope) : Ty → Ty → Type 0 where
  -- A type is assignable to itself (JLS 5.1.1).
  to_itself : {t : Ty} → IsAssignable up object t t
  -- A numeric type is assignable to what it widens to (JLS 5.1.2).
  by_widening : {s t : Ty} → Widens s t → IsAssignable up object s t
  -- A type is assignable to what it is a subtype of (JLS 5.1.5).
  to_supertype : {s t : Ty} → IsSubtype up object s t → IsAssignable up object s t
  -- `null` is assignable to each reference type (JLS 4.1).
  of_null : {t : Ty} → IsReference t → IsAssignable up object (plain Null) t
  -- A bad type, which has its diagnostic already, is assignable to each type.
  of_bad : {s t : Ty} → IsBad s → IsAssignable up object s t
  -- Each type is assignable to a bad one.
  to_bad : {s t : Ty} → IsBad t → IsAssignable up object s t

-- ---- casts (JLS 5.5)

-- The type is an interface.
pub record IsInterface (a : SideOf) : Type 0 where
  pub declared : IsClassOrInterface a.ty
  pub interface : IsTrue a.interface

-- The type is a class that is not final.
pub record IsNonFinalClass (a : SideOf) : Type 0 where
  pub declared : IsClassOrInterface a.ty
  pub no_interface : a.interface ≡ false
  pub not_final : a.is_final ≡ false

-- what is known of an array, where this is known of its elements' type
abbrev pub array_side : SideOf → SideOf
array_side a = record { ty = array_of a.ty; up = a.up; interface = a.interface; is_final = a.is_final }

-- A value of the first type may be cast to the second, by what is known of each.
pub data IsCastable (object : Scope) : SideOf → SideOf → Type 0 where
  -- A type may be cast to one that it is assignable to, as a class to its superclass (JLS 5.1.1, 5.1.2, 5.1.5).
  to_assignable : {a b : SideOf} → IsAssignable a.up object a.ty b.ty → IsCastable object a b
  -- A type may be cast to one that is assignable to it, as a class to its subclass (JLS 5.1.6).
  from_assignable : {a b : SideOf} → IsAssignable b.up object b.ty a.ty → IsCastable object a b
  -- A numeric type may be cast to each numeric type (JLS 5.1.3).
  of_numbers : {a b : SideOf} → IsNumeric a.ty → IsNumeric b.ty → IsCastable object a b
  -- A class that is not final may be cast to each interface (JLS 5.5.1).
  to_interface : {a b : SideOf} → IsNonFinalClass a → IsInterface b → IsCastable object a b
  -- An interface may be cast to each class that is not final (JLS 5.5.1).
  from_interface : {a b : SideOf} → IsInterface a → IsNonFinalClass b → IsCastable object a b
  -- An interface may be cast to each interface (JLS 5.5.1).
  of_interfaces : {a b : SideOf} → IsInterface a → IsInterface b → IsCastable object a b
  -- `S[]` may be cast to `T[]` where `S` and `T` are reference types and `S` may be cast to `T` (JLS 5.5.1).
  of_array_elements : {a b : SideOf} → IsReference a.ty → IsReference b.ty → IsCastable object a b → IsCastable object (array_side a) (array_side b)
