-- The types of operators (JLS 15.14 to 15.25), by the numbers of their tokens.
use Rattle.std.specs.Prelude.{ℕ, ◌==◌, Bool, true, false, ◌&&◌, ◌||◌, not, cond, Option, None, Some}
use Rattle.sg_base.specs.declared.scope.Scope.{Scope}
use Rattle.jv_instance.specs.declared.ty.Ty.{Ty}
use Rattle.jv_instance.specs.declared.type_base.TypeBase.{TypeBase}
use Rattle.jv_instance.specs.declared.type_base.TypeBase.TheVariants.{Boolean, Char, Int, Long, Class, Null, Void, Bad}
use Rattle.jv_instance.specs.Types.{is_bad}
use Rattle.jv_types.specs.Conversion.{SideOf, is_numeric, is_reference, is_null, is_type, is_class, is_subtype, are_castable, width}

-- ---- types without brackets

-- the type with this base and without brackets
abbrev pub plain : TypeBase → Ty
plain b = record { base = b; dims = 0 }

-- the type `boolean`
abbrev pub boolean_type : Ty
boolean_type = plain Boolean

-- the bad type
abbrev pub bad_type : Ty
bad_type = plain Bad

-- the base is `boolean`
abbrev pub is_boolean_base : TypeBase → Bool
is_boolean_base Boolean = true
is_boolean_base Char = false
is_boolean_base Int = false
is_boolean_base Long = false
is_boolean_base (Class s) = false
is_boolean_base Null = false
is_boolean_base Void = false
is_boolean_base Bad = false

-- the type `boolean`, without brackets
abbrev pub is_boolean : Ty → Bool
is_boolean t = (t.dims == 0) && is_boolean_base t.base

-- the base is `void`
abbrev pub is_void_base : TypeBase → Bool
is_void_base Void = true
is_void_base Boolean = false
is_void_base Char = false
is_void_base Int = false
is_void_base Long = false
is_void_base (Class s) = false
is_void_base Null = false
is_void_base Bad = false

-- the type `void`, without brackets
abbrev pub is_void : Ty → Bool
is_void t = (t.dims == 0) && is_void_base t.base

-- the class `String`
abbrev pub is_string : Scope → Ty → Bool
is_string string t = (t.dims == 0) && is_class string t.base

-- ---- promotion (JLS 5.6)

-- the promoted type of two numeric ones: long where one is, and else int
abbrev pub promoted : Ty → Ty → Ty
promoted a b = cond ((width a.base == 3) || (width b.base == 3)) (plain Long) (plain Int)

-- a type, where this holds
abbrev pub where_true : Bool → Ty → Option Ty
where_true b t = cond b (Some t) None

-- ---- one operand

-- the sign operators and `~`
abbrev pub is_sign : ℕ → Bool
is_sign op = (op == 28) || ((op == 29) || (op == 16))

-- `++` and `--`
abbrev pub is_step : ℕ → Bool
is_step op = (op == 26) || (op == 27)

-- the type of an operator with one operand: numeric ones promote, `!` is boolean, and a step keeps the type
abbrev pub unary_type : ℕ → Ty → Option Ty
unary_type op t =
    cond (is_bad t) (Some bad_type)
    (cond (is_sign op) (where_true (is_numeric t) (promoted t t))
    (cond (op == 15) (where_true (is_boolean t) boolean_type)
    (cond (is_step op) (where_true (is_numeric t) t) None)))

-- ---- two operands

-- `*`, `/`, `%` and `-`
abbrev pub is_arithmetic : ℕ → Bool
is_arithmetic op = ((op == 30) || (op == 31)) || ((op == 35) || (op == 29))

-- `<<`, `>>` and `>>>`
abbrev pub is_shift : ℕ → Bool
is_shift op = (op == 36) || ((op == 37) || (op == 38))

-- `<`, `>`, `<=` and `>=`
abbrev pub is_comparison : ℕ → Bool
is_comparison op = ((op == 13) || (op == 14)) || ((op == 21) || (op == 22))

-- `==` and `!=`
abbrev pub is_equality : ℕ → Bool
is_equality op = (op == 20) || (op == 23)

-- `&`, `^` and `|`
abbrev pub is_bitwise : ℕ → Bool
is_bitwise op = (op == 32) || ((op == 34) || (op == 33))

-- `&&` and `||`
abbrev pub is_logical : ℕ → Bool
is_logical op = (op == 24) || (op == 25)

-- two numeric operands, two boolean ones
abbrev pub are_numeric : Ty → Ty → Bool
are_numeric a b = is_numeric a && is_numeric b

-- two boolean operands
abbrev pub are_boolean : Ty → Ty → Bool
are_boolean a b = is_boolean a && is_boolean b

-- a reference type, or the type of `null`
abbrev pub is_reference_or_null : Ty → Bool
is_reference_or_null t = is_reference t || is_null t

-- two operands that `==` compares: numeric, boolean, or references or null of which one may be cast to the other
abbrev pub are_comparable : Scope → SideOf → SideOf → Bool
are_comparable object a b =
    are_numeric a.ty b.ty || (are_boolean a.ty b.ty || ((is_reference_or_null a.ty && is_reference_or_null b.ty) && are_castable object a b))

-- `+` joins a String with anything that has a value
abbrev pub are_joined : Scope → Ty → Ty → Bool
are_joined string a b = (is_string string a && not (is_void b)) || (is_string string b && not (is_void a))

-- the type of `+`: `String` where it joins one with something, and else the promoted type of two numeric operands
abbrev pub sum_type : Scope → Ty → Ty → Option Ty
sum_type string a b = cond (are_joined string a b) (Some (plain (Class string))) (where_true (are_numeric a b) (promoted a b))

-- the type of `&`, `^` or `|`: boolean for two boolean operands, and else the promoted type of two numeric ones
abbrev pub bitwise_type : Ty → Ty → Option Ty
bitwise_type a b = cond (are_boolean a b) (Some boolean_type) (where_true (are_numeric a b) (promoted a b))

-- the type of an operator with two operands; `instanceof` has the number 153, and its second operand is a type
abbrev pub binary_type : ℕ → SideOf → SideOf → Scope → Scope → Option Ty
binary_type op a b string object =
    cond (is_bad a.ty || is_bad b.ty) (Some bad_type)
    (cond (op == 28) (sum_type string a.ty b.ty)
    (cond (is_arithmetic op) (where_true (are_numeric a.ty b.ty) (promoted a.ty b.ty))
    (cond (is_shift op) (where_true (are_numeric a.ty b.ty) (promoted a.ty a.ty))
    (cond (is_comparison op) (where_true (are_numeric a.ty b.ty) boolean_type)
    (cond (is_equality op) (where_true (are_comparable object a b) boolean_type)
    (cond (is_bitwise op) (bitwise_type a.ty b.ty)
    (cond (is_logical op) (where_true (are_boolean a.ty b.ty) boolean_type)
    (cond (op == 153) (where_true (is_reference_or_null a.ty && is_reference b.ty) boolean_type) None))))))))

-- ---- the conditional (JLS 15.25)

-- the wider of two types of which one is null or a subtype of the other, a reference type
abbrev pub wider : SideOf → SideOf → Scope → Option Ty
wider a b object =
    cond (is_reference b.ty && (is_null a.ty || is_subtype a.up object a.ty b.ty)) (Some b.ty)
    (cond (is_reference a.ty && (is_null b.ty || is_subtype b.up object b.ty a.ty)) (Some a.ty) None)

-- the type of a conditional whose branches have these types
abbrev pub conditional_type : SideOf → SideOf → Scope → Option Ty
conditional_type a b object =
    cond (is_bad a.ty || is_bad b.ty) (Some bad_type)
    (cond (is_void a.ty || is_void b.ty) None
    (cond (is_type a.ty b.ty) (Some a.ty)
    (cond (are_numeric a.ty b.ty) (Some (promoted a.ty b.ty)) (wider a b object))))
