-- The types of operators, casts and assignments by those of their operands, with their diagnostics (JLS 15.14 to 15.26).
use Rattle.std.specs.Prelude.{ℕ, ◌-◌, ◌==◌, ◌&&◌, ◌||◌, not, nat_lt, Bool, false, cond, List, [], ◌∷◌, ◌++◌, Option, None, Some, slice_index_or, codes, is_some}
use Rattle.sg_reading.specs.Reading.{done, and_then}
use Rattle.jv_diag.specs.declared.codes.TheConstants.{FINAL_VARIABLE, NO_CAST, NO_VARIABLE, OPERANDS, OTHER_TYPE}
use Rattle.jv_diag.specs.Plain.{DiagOf}
use Rattle.jv_instance.specs.declared.ty.Ty.{Ty}
use Rattle.jv_instance.specs.declared.type_base.TypeBase.TheVariants.{Int}
use Rattle.jv_instance.specs.Types.{is_bad}
use Rattle.jv_layout.specs.Folder.{text_of}
use Rattle.jv_layout.specs.Readers.{object_scope, string_scope}
use Rattle.jv_lex.specs.Punctuation.{marks}
use Rattle.jv_tree.specs.declared.names.NameId.{NameId}
use Rattle.jv_types.specs.Conversion.{are_castable, element, is_numeric, is_type}
use Rattle.jv_types.specs.Operators.{bad_type, binary_type, boolean_type, conditional_type, is_equality, is_step, plain, promoted, unary_type}
use Rattle.jv_names.specs.Replies.{Rule}
use Rattle.jv_expr.specs.declared.value.Value.{Value}
use Rattle.jv_expr.specs.Checking.{Checking}
use Rattle.jv_expr.specs.Conversions.{Sides, bare_sides, fits, sides}
use Rattle.jv_expr.specs.Site.{SiteOf, with_fault, with_fault_if, type_text}

-- ---- values

-- a value that is no variable, or one that may be assigned
abbrev pub value : Ty → Value
value t = record { ty = t; sealed = None }

-- a value of a bad type
abbrev pub bad_value : Value
bad_value = value bad_type

-- a type where nothing was wrong, and else a bad one
abbrev pub unless_faulty : Bool → Ty → Ty
unless_faulty faulty t = cond faulty bad_type t

-- ---- texts

-- an operator as it is written; 153 is `instanceof`, 50 stands for an index, and 17, the mark `?`, for the conditional
abbrev pub operator_text : ℕ → List ℕ
operator_text op = cond (op == 153) (codes "instanceof") (cond (op == 50) (codes "[]") (cond (op == 17) (codes "?:") (slice_index_or marks op [])))

-- two types
abbrev pub both_texts : SiteOf → Ty → Ty → List ℕ
both_texts site s t = (type_text site s ++ codes " and ") ++ type_text site t

-- ---- what fits

-- a type that is found where another one is needed does not fit
abbrev pub with_misfit : Bool → SiteOf → ℕ → Ty → Ty → List DiagOf → List DiagOf
with_misfit ok site at found needed ds = with_fault_if (not ok) site at OTHER_TYPE (type_text site found ∷ type_text site needed ∷ []) ds

-- a value at an offset is assigned to a variable of a type
unfoldable pub assigned_to : SiteOf → ℕ → Ty → Ty → List DiagOf → Rule (List DiagOf)
assigned_to site at found needed ds = and_then (fits site.layout found needed) (λ ok. done (with_misfit ok site at found needed ds))

-- a condition is boolean; of a bad one nothing is said
abbrev pub is_condition : Ty → Bool
is_condition t = is_bad t || is_type t boolean_type

-- the condition of a statement is such a one (JLS 14.9, 14.12 to 14.14)
abbrev pub with_condition : SiteOf → ℕ → Ty → List DiagOf → List DiagOf
with_condition site at t ds = with_misfit (is_condition t) site at t boolean_type ds

-- a number that is promoted to int, as a size of an array and an index are (JLS 10.4, 15.10)
abbrev pub is_index : Ty → Bool
is_index t = is_numeric t && is_type (promoted t t) (plain Int)

-- a size of an array is such a number
abbrev pub with_size : SiteOf → ℕ → Ty → List DiagOf → List DiagOf
with_size site at t ds = with_misfit (is_bad t || is_index t) site at t (plain Int) ds

-- ---- one operand

-- the operand of an operator at an offset has no type that it takes
abbrev pub with_refused : SiteOf → ℕ → ℕ → List ℕ → List DiagOf → List DiagOf
with_refused site at op operands ds = with_fault site at OPERANDS (operator_text op ∷ operands ∷ []) ds

-- the type that was found, and else a bad one with a diagnostic
abbrev pub or_refused : Option Ty → SiteOf → ℕ → ℕ → List ℕ → List DiagOf → Ty × List DiagOf
or_refused (Some t) site at op operands ds = (t, ds)
or_refused None site at op operands ds = (bad_type, with_refused site at op operands ds)

-- a sign, `~` or `!`
abbrev pub signed : SiteOf → ℕ → ℕ → Ty → List DiagOf → Ty × List DiagOf
signed site at op t ds = or_refused (unary_type op t) site at op (type_text site t) ds

-- a variable that cannot be assigned
abbrev pub with_sealed : SiteOf → ℕ → Option NameId → List DiagOf → List DiagOf
with_sealed site at None ds = ds
with_sealed site at (Some n) ds = with_fault site at FINAL_VARIABLE (text_of site.names n.0 ∷ []) ds

-- what is assigned is no variable, or one that cannot be assigned; where its type is bad neither is said
abbrev pub with_target : SiteOf → ℕ → Bool → Value → List DiagOf → List DiagOf
with_target site at variable v ds = cond (is_bad v.ty) ds (cond variable (with_sealed site at v.sealed ds) (with_fault site at NO_VARIABLE [] ds))

-- it is assigned with nothing wrong
abbrev pub is_open : Bool → Value → Bool
is_open variable v = variable && not (is_some v.sealed)

-- a type with diagnostics, which is bad where something was wrong
abbrev pub faulty_first : Bool → Ty × List DiagOf → Ty × List DiagOf
faulty_first faulty p = (unless_faulty faulty p.0, p.1)

-- `++` and `--` of an operand at an offset, by whether it is a variable
abbrev pub stepped : SiteOf → ℕ → ℕ → ℕ → Bool → Value → List DiagOf → Ty × List DiagOf
stepped site at op place variable v ds =
    faulty_first (not (is_open variable v)) (or_refused (unary_type op v.ty) site at op (type_text site v.ty) (with_target site place variable v ds))

-- an operator with one operand
abbrev pub unary_on : SiteOf → ℕ → ℕ → ℕ → Bool → Value → List DiagOf → Ty × List DiagOf
unary_on site at op place variable v ds = cond (is_step op) (stepped site at op place variable v ds) (signed site at op v.ty ds)

-- ---- two operands

-- these operators compare classes
abbrev pub compares : ℕ → Bool
compares op = is_equality op || (op == 153)

-- the operands of an operator: with their supertypes where it compares classes, and else without
unfoldable pub operand_sides : SiteOf → ℕ → Ty → Ty → Rule Sides
operand_sides site op s t = cond (compares op) (sides site.layout s t) (done (bare_sides site.layout s t))

-- the type of an operator by both operands
abbrev pub operator_type : SiteOf → ℕ → Sides → Option Ty
operator_type site op p = binary_type op p.0 p.1 (string_scope site.layout) (object_scope site.layout)

-- a type that cannot be cast to another one, at an offset
abbrev pub with_cast : Bool → SiteOf → ℕ → Ty → Ty → List DiagOf → List DiagOf
with_cast ok site at s t ds = with_fault_if (not ok) site at NO_CAST (type_text site s ∷ type_text site t ∷ []) ds

-- one of two types may be cast to the other, or one is bad
abbrev pub may_cast : SiteOf → Sides → Bool
may_cast site p = (is_bad p.0.ty || is_bad p.1.ty) || are_castable (object_scope site.layout) p.0 p.1

-- `instanceof` asks that too
abbrev pub may_be_instance : SiteOf → ℕ → Sides → Bool
may_be_instance site op p = not (op == 153) || may_cast site p

-- the type of an operator with these operands, at an offset; a bad one where something was wrong
abbrev pub operated : SiteOf → ℕ → ℕ → Sides → List DiagOf → Ty × List DiagOf
operated site at op p ds = (
  unless_faulty (not (may_be_instance site op p)) (or_refused (operator_type site op p) site at op (both_texts site p.0.ty p.1.ty) ds).0,
  with_cast (may_be_instance site op p) site at p.0.ty p.1.ty (or_refused (operator_type site op p) site at op (both_texts site p.0.ty p.1.ty) ds).1,
)

-- an operator with two operands
unfoldable pub binary_on : SiteOf → ℕ → ℕ → Ty → Ty → List DiagOf → Checking Ty
binary_on site at op s t ds = and_then (operand_sides site op s t) (λ p. done (operated site at op p ds))

-- ---- casts (JLS 15.16)

-- the type that it is cast to, whatever the operand is, unless that is refused
abbrev pub casted : SiteOf → ℕ → Sides → List DiagOf → Ty × List DiagOf
casted site at p ds = (unless_faulty (not (may_cast site p)) p.1.ty, with_cast (may_cast site p) site at p.0.ty p.1.ty ds)

-- a value of the second type is cast to the first
unfoldable pub cast_on : SiteOf → ℕ → Ty → Ty → List DiagOf → Checking Ty
cast_on site at t s ds = and_then (sides site.layout s t) (λ p. done (casted site at p ds))

-- ---- the conditional (JLS 15.25)

-- what the diagnostic of a conditional names: the type of a condition that is neither boolean nor bad, and else those of the branches
abbrev pub choice_text : SiteOf → Ty → Ty → Ty → List ℕ
choice_text site c s t = cond (is_condition c) (both_texts site s t) (type_text site c)

-- bad in place of a type
abbrev pub bad_for : Option Ty → Option Ty
bad_for None = None
bad_for (Some t) = Some bad_type

-- the type of a conditional: bad where a branch is; with a bad condition the branches have to fit one another all the same
abbrev pub choice_type : SiteOf → Ty → Sides → Option Ty
choice_type site c p =
    cond (is_bad p.0.ty || is_bad p.1.ty) (Some bad_type)
    (cond (is_bad c) (bad_for (conditional_type p.0 p.1 (object_scope site.layout))) (cond (is_type c boolean_type) (conditional_type p.0 p.1 (object_scope site.layout)) None))

-- the branches of a conditional: with their supertypes where its condition is boolean or bad, and else without
unfoldable pub branch_sides : SiteOf → Ty → Ty → Ty → Rule Sides
branch_sides site c s t = cond (is_condition c) (sides site.layout s t) (done (bare_sides site.layout s t))

-- a conditional by what is known of its branches
abbrev pub choice_by : SiteOf → ℕ → Ty → Sides → List DiagOf → Ty × List DiagOf
choice_by site at c p ds = or_refused (choice_type site c p) site at 17 (choice_text site c p.0.ty p.1.ty) ds

-- a conditional at an offset, by the types of its condition and of its branches
unfoldable pub choice_on : SiteOf → ℕ → Ty → Ty → Ty → List DiagOf → Checking Ty
choice_on site at c s t ds = and_then (branch_sides site c s t) (λ p. done (choice_by site at c p ds))

-- ---- indexes (JLS 15.10.3)

-- an array, and an index
abbrev pub is_indexed : Ty → Ty → Bool
is_indexed s t = nat_lt 0 s.dims && is_index t

-- the type of an element of an array at an index: bad where one of the two types is, and none where they are not such types
abbrev pub element_type : Ty → Ty → Option Ty
element_type s t = cond (is_bad s || is_bad t) (Some bad_type) (cond (is_indexed s t) (Some (element 1 s)) None)

-- an index at the offset of the whole expression
abbrev pub index_on : SiteOf → ℕ → Ty → Ty → List DiagOf → Ty × List DiagOf
index_on site at s t ds = or_refused (element_type s t) site at 50 (both_texts site s t) ds

-- ---- assignments (JLS 15.26)

-- the operator of `op=`
abbrev pub operator_of : ℕ → ℕ
operator_of op = op - 11

-- where the left side is bad nothing more is said
abbrev pub simply_assigned : SiteOf → ℕ → Ty → Ty → List DiagOf → Rule (List DiagOf)
simply_assigned site at s t ds = cond (is_bad s) (done ds) (assigned_to site at t s ds)

-- `=`: the right side, at an offset, fits the left one
abbrev pub assign_plain : SiteOf → ℕ → Bool → Value → ℕ → Ty → List DiagOf → Checking Ty
assign_plain site place variable v at t ds =
    and_then (simply_assigned site at v.ty t (with_target site place variable v ds)) (λ ds. done (unless_faulty (not (is_open variable v)) v.ty, ds))

-- what the operator of `op=` gives: a type, which is cast to the left one, or none, which is said
abbrev pub compound_result : SiteOf → ℕ → ℕ → Value → Ty → Option Ty → List DiagOf → Checking Bool
compound_result site at op v t None ds = done (false, with_refused site at op (both_texts site v.ty t) ds)
compound_result site at op v t (Some r) ds = and_then (sides site.layout r v.ty) (λ p. done (may_cast site p, with_cast (may_cast site p) site at r v.ty ds))

-- `op=`: the left side has the operator with the right one, and what that gives may be cast to the left type
abbrev pub assign_compound : SiteOf → ℕ → ℕ → ℕ → Bool → Value → Ty → List DiagOf → Checking Ty
assign_compound site at op place variable v t ds =
    and_then (operand_sides site (operator_of op) v.ty t) (λ p. and_then (compound_result site at op v t (operator_type site (operator_of op) p) (with_target site place variable v ds)) (λ r.
    done (unless_faulty (not (is_open variable v && r.0)) v.ty, r.1)))

-- an assignment: where its operator stands, which that is, where the left side starts, whether that is a variable and what it is, and the right side
unfoldable pub assign_on : SiteOf → ℕ → ℕ → ℕ → Bool → Value → ℕ → Ty → List DiagOf → Checking Ty
assign_on site at op place variable v right t ds = cond (op == 12) (assign_plain site place variable v right t ds) (assign_compound site at op place variable v t ds)
