-- Names as expressions: variables, and what stands in front of a dot (JLS 6.5.2, 6.5.6, 15.14.1).
use Rattle.std.specs.Prelude.{ℕ, ◌==◌, not, Bool, true, false, cond, List, [], ◌∷◌, ◌++◌, Option, None, Some}
use Rattle.sg_base.specs.declared.scope.Scope.{Scope}
use Rattle.sg_reading.specs.Reading.{done, and_then}
use Rattle.jv_diag.specs.declared.codes.TheConstants.{AMBIGUOUS_NAME, AMBIGUOUS_TYPE, INACCESSIBLE_TYPE, TOO_MANY_PATHS, UNKNOWN_NAME}
use Rattle.jv_diag.specs.Plain.{DiagOf}
use Rattle.jv_layout.specs.Folder.{LayoutOf}
use Rattle.jv_layout.specs.Scopes.{root_scope}
use Rattle.jv_tree.specs.declared.name.Ident.{Ident}
use Rattle.jv_tree.specs.declared.names.NameId.{NameId}
use Rattle.jv_names.specs.declared.ends.Ends.{Ends}
use Rattle.jv_names.specs.declared.ends.Ends.TheVariants.{Scopes, TooMany as TooManyEnds}
use Rattle.jv_names.specs.declared.meaning.Meaning.{Meaning}
use Rattle.jv_names.specs.declared.meaning.Meaning.TheVariants.{One, Nothing, Ambiguous, TooMany}
use Rattle.jv_names.specs.declared.static_kind.StaticKind.TheVariants.{Fields}
use Rattle.jv_names.specs.Access.{type_accessible}
use Rattle.jv_names.specs.Members.{field}
use Rattle.jv_names.specs.Names.{member_type, package_type, subpackage}
use Rattle.jv_names.specs.Replies.{Rule}
use Rattle.jv_names.specs.Statics.{static_members}
use Rattle.jv_names.specs.TypeNames.{simple_type}
use Rattle.jv_names.specs.Written.{start_of, written}
use Rattle.jv_expr.specs.declared.denoted.Denoted.{Denoted}
use Rattle.jv_expr.specs.declared.denoted.Denoted.TheVariants.{Variable, TypeName, Package, Nothing as Unknown}
use Rattle.jv_expr.specs.declared.found_field.FoundField.{FoundField}
use Rattle.jv_expr.specs.declared.found_field.FoundField.TheVariants.{In, Imported, Several, TooMany as TooManyFields, Nowhere}
use Rattle.jv_expr.specs.declared.front.Front.{Front}
use Rattle.jv_expr.specs.declared.front.Front.TheVariants.{Value as ValueFront, TypeName as TypeFront}
use Rattle.jv_expr.specs.declared.local.Local.{Local}
use Rattle.jv_expr.specs.declared.value.Value.{Value}
use Rattle.jv_expr.specs.Checking.{Checking}
use Rattle.jv_expr.specs.Fields.{bad_named, field_found, field_on}
use Rattle.jv_expr.specs.Operators.{bad_value}
use Rattle.jv_expr.specs.Site.{SiteOf, has_instance, title, with_fault, with_fault_if, with_named}

-- ---- local variables

-- behind one that was found so far, the last of a name: the innermost that is in scope
abbrev pub latest : List Local → NameId → Option Local → Option Local
latest [] n found = found
latest (v ∷ vs) n found = latest vs n (cond (v.name.0 == n.0) (Some v) found)

-- a local variable as a value
abbrev pub local_value : Local → Value
local_value v = record { ty = v.ty; sealed = cond v.sealed (Some v.name) None }

-- ---- simple names

-- by what the name means among the fields of a body
abbrev pub in_body : Scope → Meaning → Rule FoundField → Rule FoundField
in_body b (One m) next = done (In b m)
in_body b Nothing next = next
in_body b Ambiguous next = done Several
in_body b TooMany next = done TooManyFields

-- the field of a name in the bodies outward: of the first that has some
unfoldable pub field_outward : LayoutOf → List Scope → NameId → Rule FoundField
field_outward l [] n = done Nowhere
field_outward l (b ∷ bs) n = and_then (field l b n) (λ m. in_body b m (field_outward l bs n))

-- by the static fields that imports bring: one, several, or none and further
abbrev pub in_import : Ends → Rule FoundField → Rule FoundField
in_import TooManyEnds next = done TooManyFields
in_import (Scopes []) next = next
in_import (Scopes (m ∷ [])) next = done (Imported m)
in_import (Scopes (m ∷ k ∷ ms)) next = done Several

-- a static field that single static imports bring, and else one that those on demand bring
unfoldable pub imported_field : LayoutOf → ℕ → NameId → Rule FoundField
imported_field l file n =
    and_then (static_members l file false Fields n) (λ s. in_import s (and_then (static_members l file true Fields n) (λ a. in_import a (done Nowhere))))

-- where no body has a field of the name, one that imports of the file bring
abbrev pub or_imported : LayoutOf → ℕ → NameId → FoundField → Rule FoundField
or_imported l file n Nowhere = imported_field l file n
or_imported l file n (In b m) = done (In b m)
or_imported l file n (Imported m) = done (Imported m)
or_imported l file n Several = done Several
or_imported l file n TooManyFields = done TooManyFields

-- the field of a name around a place: of the bodies outward, and else of the file's static imports
unfoldable pub field_around : SiteOf → NameId → Rule FoundField
field_around site n = and_then (field_outward site.layout site.bodies n) (or_imported site.layout site.file n)

-- such a field as a value; where there is none, what the name means besides
abbrev pub outward_value : SiteOf → Ident → FoundField → List DiagOf → Checking Value
outward_value site i (In b m) ds = field_found site None (has_instance site b) true i m ds
outward_value site i (Imported m) ds = field_found site None true false i m ds
outward_value site i Several ds = bad_named site i AMBIGUOUS_NAME ds
outward_value site i TooManyFields ds = bad_named site i TOO_MANY_PATHS ds
outward_value site i Nowhere ds = bad_named site i UNKNOWN_NAME ds

-- the local variable, where one was found, and else a field around
abbrev pub or_field : SiteOf → Option Local → Ident → List DiagOf → Checking Value
or_field site None i ds = and_then (field_around site i.id) (λ f. outward_value site i f ds)
or_field site (Some v) i ds = done (local_value v, ds)

-- a simple name: the innermost local variable, or else a field around
unfoldable pub simple_name : SiteOf → List Local → Ident → List DiagOf → Checking Value
simple_name site vs i ds = or_field site (latest vs i.id None) i ds

-- ---- the parts of a name

-- a type that a part names, whose front is written so: it is accessible, or that is said
unfoldable pub type_part : SiteOf → List Ident → Bool → Scope → List DiagOf → Checking Denoted
type_part site front behind t ds =
    and_then (type_accessible site.layout site.file site.bodies t) (λ ok. done (TypeName t behind, with_fault_if (not ok) site (start_of front) INACCESSIBLE_TYPE (title site t ∷ []) ds))

-- a part without one meaning
abbrev pub several_part : SiteOf → List Ident → List DiagOf → Checking Denoted
several_part site front ds = done (Unknown, with_fault site (start_of front) AMBIGUOUS_TYPE (written site.names front ∷ []) ds)

-- a part with too many paths
abbrev pub many_part : SiteOf → Ident → List DiagOf → Checking Denoted
many_part site i ds = done (Unknown, with_named site i TOO_MANY_PATHS ds)

-- a front that is not found
abbrev pub lost_front : SiteOf → List Ident → List DiagOf → Checking Denoted
lost_front site front ds = done (Unknown, with_fault site (start_of front) UNKNOWN_NAME (written site.names front ∷ []) ds)

-- a part that is not found behind a type
abbrev pub lost_part : SiteOf → Ident → List DiagOf → Checking Denoted
lost_part site i ds = done (Unknown, with_named site i UNKNOWN_NAME ds)

-- by what a part means among packages, if it is not found elsewhere
abbrev pub package_meant : SiteOf → List Ident → Ident → Meaning → List DiagOf → Checking Denoted
package_meant site front i (One p) ds = done (Package p, ds)
package_meant site front i Nothing ds = lost_front site front ds
package_meant site front i Ambiguous ds = several_part site front ds
package_meant site front i TooMany ds = many_part site i ds

-- by what a part means among types, and else among the packages in a package
abbrev pub type_meant : SiteOf → Scope → List Ident → Ident → Meaning → List DiagOf → Checking Denoted
type_meant site p front i (One t) ds = type_part site front false t ds
type_meant site p front i Nothing ds = and_then (subpackage site.layout p i.id) (λ k. package_meant site front i k ds)
type_meant site p front i Ambiguous ds = several_part site front ds
type_meant site p front i TooMany ds = many_part site i ds

-- a variable as what a name stands for
abbrev pub as_variable : Checking Value → Checking Denoted
as_variable r = and_then r (λ v. done (Variable v.0, v.1))

-- the first part: a field around, and else a type, and else a package of the root
abbrev pub head_found : SiteOf → Ident → FoundField → List DiagOf → Checking Denoted
head_found site i (In b m) ds = as_variable (outward_value site i (In b m) ds)
head_found site i (Imported m) ds = as_variable (outward_value site i (Imported m) ds)
head_found site i Several ds = as_variable (outward_value site i Several ds)
head_found site i TooManyFields ds = as_variable (outward_value site i TooManyFields ds)
head_found site i Nowhere ds = and_then (simple_type site.layout site.file site.bodies i.id) (λ m. type_meant site root_scope (i ∷ []) i m ds)

-- the first part: the local variable, where one was found, and else what the name means besides
abbrev pub or_head : SiteOf → Option Local → Ident → List DiagOf → Checking Denoted
or_head site None i ds = and_then (field_around site i.id) (λ f. head_found site i f ds)
or_head site (Some v) i ds = done (Variable (local_value v), ds)

-- the first part of a name: the innermost local variable, or else a field, a type or a package
unfoldable pub head_part : SiteOf → List Local → Ident → List DiagOf → Checking Denoted
head_part site vs i ds = or_head site (latest vs i.id None) i ds

-- a part behind a type that is no field of it: a member type
abbrev pub member_meant : SiteOf → List Ident → Ident → Meaning → List DiagOf → Checking Denoted
member_meant site front i (One t) ds = type_part site front true t ds
member_meant site front i Nothing ds = lost_part site i ds
member_meant site front i Ambiguous ds = several_part site front ds
member_meant site front i TooMany ds = many_part site i ds

-- a part behind a type: a field, which lacks an instance where it is an instance field, and else a member type
abbrev pub static_meant : SiteOf → Scope → List Ident → Ident → Meaning → List DiagOf → Checking Denoted
static_meant site t front i (One m) ds = as_variable (field_found site (Some t) false false i m ds)
static_meant site t front i Nothing ds = and_then (member_type site.layout t i.id) (λ k. member_meant site front i k ds)
static_meant site t front i Ambiguous ds = as_variable (bad_named site i AMBIGUOUS_NAME ds)
static_meant site t front i TooMany ds = as_variable (bad_named site i TOO_MANY_PATHS ds)

-- a part of a name behind what the parts before it stand for, with the front that ends with it
abbrev pub next_part_of : SiteOf → List Ident → Denoted → Ident → List DiagOf → Checking Denoted
next_part_of site front (Variable v) i ds = as_variable (field_on site false v.ty i ds)
next_part_of site front (TypeName t behind) i ds = and_then (field site.layout t i.id) (λ m. static_meant site t front i m ds)
next_part_of site front (Package p) i ds = and_then (package_type site.layout p i.id) (λ m. type_meant site p front i m ds)
next_part_of site front Unknown i ds = done (Unknown, ds)

-- the next part of a name, behind what the parts before it stand for
unfoldable pub next_part : SiteOf → List Ident → Denoted → Ident → List DiagOf → Checking Denoted
next_part site front d i ds = next_part_of site front d i ds

-- the further parts behind the front
abbrev pub further_parts : SiteOf → List Ident → Denoted → List Ident → List DiagOf → Checking Denoted
further_parts site front d [] ds = done (d, ds)
further_parts site front d (i ∷ is) ds = and_then (next_part site (front ++ i ∷ []) d i ds) (λ r. further_parts site (front ++ i ∷ []) r.0 is r.1)

-- what a name stands for
unfoldable pub denoted : SiteOf → List Local → Ident → List Ident → List DiagOf → Checking Denoted
denoted site vs i is ds = and_then (head_part site vs i ds) (λ d. further_parts site (i ∷ []) d.0 is d.1)

-- ---- names as values, and in front of the dot of a call

-- the last of some identifiers
abbrev pub last_of : Ident → List Ident → Ident
last_of i [] = i
last_of i (j ∷ js) = last_of j js

-- a name that ends as a type or a package is no variable: behind a type its last part is not found, and else the whole
abbrev pub ended_value : SiteOf → Ident → List Ident → Denoted → List DiagOf → Value × List DiagOf
ended_value site i is (Variable v) ds = (v, ds)
ended_value site i is (TypeName t true) ds = (bad_value, with_named site (last_of i is) UNKNOWN_NAME ds)
ended_value site i is (TypeName t false) ds = (bad_value, with_fault site i.at UNKNOWN_NAME (written site.names (i ∷ is) ∷ []) ds)
ended_value site i is (Package p) ds = (bad_value, with_fault site i.at UNKNOWN_NAME (written site.names (i ∷ is) ∷ []) ds)
ended_value site i is Unknown ds = (bad_value, ds)

-- a name of several parts as an expression
abbrev pub long_name_value : SiteOf → List Local → Ident → List Ident → List DiagOf → Checking Value
long_name_value site vs i is ds = and_then (denoted site vs i is ds) (λ d. done (ended_value site i is d.0 d.1))

-- a name as an expression; none has no identifier
abbrev pub name_value_of : SiteOf → List Local → List Ident → List DiagOf → Checking Value
name_value_of site vs [] ds = done (bad_value, ds)
name_value_of site vs (i ∷ []) ds = simple_name site vs i ds
name_value_of site vs (i ∷ j ∷ js) ds = long_name_value site vs i (j ∷ js) ds

-- a name as the value of an expression
unfoldable pub name_value : SiteOf → List Local → List Ident → List DiagOf → Checking Value
name_value site vs ids ds = name_value_of site vs ids ds

-- a name in front of the dot of a call: a variable, or a type
abbrev pub ended_front : SiteOf → Ident → List Ident → Denoted → List DiagOf → Front × List DiagOf
ended_front site i is (Variable v) ds = (ValueFront v, ds)
ended_front site i is (TypeName t behind) ds = (TypeFront t, ds)
ended_front site i is (Package p) ds = (ValueFront bad_value, with_fault site i.at UNKNOWN_NAME (written site.names (i ∷ is) ∷ []) ds)
ended_front site i is Unknown ds = (ValueFront bad_value, ds)

-- a name in front of the dot, by what it stands for; none has no identifier
abbrev pub name_front_of : SiteOf → List Local → List Ident → List DiagOf → Checking Front
name_front_of site vs [] ds = done (ValueFront bad_value, ds)
name_front_of site vs (i ∷ is) ds = and_then (denoted site vs i is ds) (λ d. done (ended_front site i is d.0 d.1))

-- what stands in front of the dot of a call, by its name
unfoldable pub name_front : SiteOf → List Local → List Ident → List DiagOf → Checking Front
name_front site vs ids ds = name_front_of site vs ids ds
