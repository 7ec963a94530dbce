-- Fields by the types that they stand behind (JLS 10.7, 15.11).
use Rattle.std.specs.Prelude.{ℕ, ◌&&◌, ◌||◌, not, nat_lt, Bool, true, cond, List, Option, None, Some, codes, bytes_eq}
use Rattle.std.specs.List.{list_any}
use Rattle.sg_base.specs.declared.scope.Scope.{Scope}
use Rattle.sg_base.specs.Scope.{is_scope}
use Rattle.sg_reading.specs.Reading.{done, and_then}
use Rattle.jv_diag.specs.declared.codes.TheConstants.{AMBIGUOUS_NAME, INACCESSIBLE_MEMBER, NO_INSTANCE, TOO_MANY_PATHS, UNKNOWN_NAME}
use Rattle.jv_diag.specs.Plain.{DiagOf}
use Rattle.jv_instance.specs.declared.ty.Ty.{Ty}
use Rattle.jv_instance.specs.declared.type_base.TypeBase.{TypeBase}
use Rattle.jv_instance.specs.declared.type_base.TypeBase.TheVariants.{Boolean, Char, Int, Long, Class, Null, Void, Bad}
use Rattle.jv_instance.specs.Types.{is_bad}
use Rattle.jv_layout.specs.Folder.{text_of}
use Rattle.jv_layout.specs.Readers.{is_final_of, is_static_of}
use Rattle.jv_tree.specs.declared.name.Ident.{Ident}
use Rattle.jv_types.specs.Operators.{bad_type, plain}
use Rattle.jv_types.specs.Conversion.{}
use Rattle.jv_names.specs.declared.meaning.Meaning.{Meaning}
use Rattle.jv_names.specs.declared.meaning.Meaning.TheVariants.{One, Nothing, Ambiguous, TooMany}
use Rattle.jv_names.specs.Access.{member_accessible}
use Rattle.jv_names.specs.Members.{field}
use Rattle.jv_names.specs.Read.{SignatureOf, signature_of}
use Rattle.jv_expr.specs.declared.value.Value.{Value}
use Rattle.jv_expr.specs.Checking.{Checking}
use Rattle.jv_expr.specs.Operators.{bad_value}
use Rattle.jv_expr.specs.Site.{SiteOf, with_named, with_named_if}

-- the type of a member by its signature; where there is none, a bad one
abbrev pub result_of : Option SignatureOf → Ty
result_of None = bad_type
result_of (Some s) = s.result

-- a field cannot be assigned: a final one, but for a blank one of the class that its constructor names as its own
abbrev pub is_sealed : SiteOf → Bool → Scope → Bool
is_sealed site own m = is_final_of site.layout m && not (own && list_any (is_scope m) site.blanks)

-- a field of an identifier with this signature
abbrev pub field_value : SiteOf → Bool → Ident → Scope → Option SignatureOf → Value
field_value site own i m s = record { ty = result_of s; sealed = cond (is_sealed site own m) (Some i.id) None }

-- an instance member that is named without an instance
abbrev pub lacks_instance : SiteOf → Bool → Scope → Bool
lacks_instance site free m = not (free || is_static_of site.layout m)

-- a member that is not accessible, and one that lacks an instance, at the identifier that names it
abbrev pub with_access : SiteOf → Bool → Bool → Ident → List DiagOf → List DiagOf
with_access site ok lacks i ds = with_named_if lacks site i NO_INSTANCE (with_named_if (not ok) site i INACCESSIBLE_MEMBER ds)

-- a field where it may be named, and else a bad value
abbrev pub field_by : SiteOf → Bool → Ident → Scope → Bool → Bool → List DiagOf → Checking Value
field_by site own i m ok lacks ds =
    cond (ok && not lacks) (and_then (signature_of site.layout m) (λ s. done (field_value site own i m s, ds))) (done (bad_value, with_access site ok lacks i ds))

-- a field that was found: through a receiver of this type, or without one; whether an instance field may stand there; and whether it is named as a
-- constructor names the fields of its own class
unfoldable pub field_found : SiteOf → Option Scope → Bool → Bool → Ident → Scope → List DiagOf → Checking Value
field_found site through free own i m ds =
    and_then (member_accessible site.layout site.file site.bodies m through) (λ ok. field_by site own i m ok (lacks_instance site free m) ds)

-- a bad value, with a diagnostic at the identifier
abbrev pub bad_named : SiteOf → Ident → ℕ → List DiagOf → Checking Value
bad_named site i code ds = done (bad_value, with_named site i code ds)

-- a field by what its name means; where that is not one field, a bad value with a diagnostic
abbrev pub field_meant : SiteOf → Option Scope → Bool → Bool → Ident → Meaning → List DiagOf → Checking Value
field_meant site through free own i (One m) ds = field_found site through free own i m ds
field_meant site through free own i Nothing ds = bad_named site i UNKNOWN_NAME ds
field_meant site through free own i Ambiguous ds = bad_named site i AMBIGUOUS_NAME ds
field_meant site through free own i TooMany ds = bad_named site i TOO_MANY_PATHS ds

-- a field of a class or an interface
unfoldable pub class_field : SiteOf → Option Scope → Bool → Scope → Ident → List DiagOf → Checking Value
class_field site through own c i ds = and_then (field site.layout c i.id) (λ m. field_meant site through true own i m ds)

-- the length of an array, which is final
abbrev pub array_field : SiteOf → Ident → List DiagOf → Checking Value
array_field site i ds =
    cond (bytes_eq (text_of site.names i.id.0) (codes "length")) (done (record { ty = plain Int; sealed = Some i.id }, ds)) (bad_named site i UNKNOWN_NAME ds)

-- a field behind a value of this base: of a class or an interface; others have none, and of a bad one nothing is said
abbrev pub base_field : SiteOf → Bool → TypeBase → Ident → List DiagOf → Checking Value
base_field site own (Class c) i ds = class_field site (Some c) own c i ds
base_field site own Boolean i ds = bad_named site i UNKNOWN_NAME ds
base_field site own Char i ds = bad_named site i UNKNOWN_NAME ds
base_field site own Int i ds = bad_named site i UNKNOWN_NAME ds
base_field site own Long i ds = bad_named site i UNKNOWN_NAME ds
base_field site own Null i ds = bad_named site i UNKNOWN_NAME ds
base_field site own Void i ds = bad_named site i UNKNOWN_NAME ds
base_field site own Bad i ds = done (bad_value, ds)

-- a field behind a value of this type
unfoldable pub field_on : SiteOf → Bool → Ty → Ident → List DiagOf → Checking Value
field_on site own t i ds = cond (nat_lt 0 t.dims && not (is_bad t)) (array_field site i ds) (base_field site own t.base i ds)
