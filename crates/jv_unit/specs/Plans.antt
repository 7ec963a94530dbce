-- What the units of files and of types do: in stages, which rows they write, and what they come to.
use Rattle.std.specs.Prelude.{ℕ, ◌-◌, nat_lt, cond, List, [], ◌∷◌, ◌++◌, length, map}
use Rattle.sg_base.specs.declared.scope.Scope.{Scope}
use Rattle.sg_base.specs.Graph.{Edge}
use Rattle.sg_reading.specs.Reading.{done, ask, and_then}
use Rattle.sg_script.specs.Script.{Plan, Stage, datum_stage, row_stage, edges_stage}
use Rattle.sg_state.specs.Opening.{opened_of}
use Rattle.jv_diag.specs.Plain.{DiagOf}
use Rattle.jv_instance.specs.declared.datum.JavaDatum.{JavaDatum}
use Rattle.jv_instance.specs.declared.pred.JavaPred.{JavaPred}
use Rattle.jv_instance.specs.declared.labels.TheConstants.{SIMP, ODI, EXT}
use Rattle.jv_layout.specs.Folder.{LayoutOf}
use Rattle.jv_layout.specs.Readers.{file_of, members_of_type}
use Rattle.jv_layout.specs.Scopes.{file_scope, member_scope, signature_of_member, type_scope}
use Rattle.jv_layout.specs.Skeleton.{skeleton_of}
use Rattle.jv_names.specs.declared.kinds.TheConstants.{METHODS}
use Rattle.jv_names.specs.Replies.{Rule, for_any}
use Rattle.jv_header.specs.declared.header.Header.{Header}
use Rattle.jv_header.specs.Declaration.{declared_diags}
use Rattle.jv_header.specs.Depends.{depends_rule}
use Rattle.jv_header.specs.Header.{header_rule, header_row}
use Rattle.jv_header.specs.Imports.{imports_rule, import_edges}
use Rattle.jv_header.specs.StaticImports.{statics_rule}
use Rattle.jv_member.specs.declared.signature.Signature.{Signature}
use Rattle.jv_member.specs.Constructors.{ctor_rule}
use Rattle.jv_member.specs.Declaration.{member_diags}
use Rattle.jv_member.specs.Members.{overrides}
use Rattle.jv_member.specs.Overriding.{inherited_rule}
use Rattle.jv_member.specs.Signatures.{signature_rule}
use Rattle.jv_tree.specs.declared.names.NameId.{NameId}
use Rattle.jv_unit.specs.Checks.{Check, declaration, methods, overriding, meeting, calling, body, checks_of}
use Rattle.jv_unit.specs.Folder.{FolderOf, java_preds}
use Rattle.jv_unit.specs.MemberBodies.{member_body, member_flow, type_blanks}
use Rattle.jv_unit.specs.Owns.{own_at}
use Rattle.jv_unit.specs.Trees.{decl_at, unit_at, name_of, mods_of, extends_of, implements_of}

-- a plan of one of Java's units, which comes to diagnostics
abbrev pub JavaPlan : Type 0
JavaPlan = Plan (List DiagOf) JavaDatum JavaPred

-- ---- files

-- the edges that the imports of a file give
abbrev pub file_edges : FolderOf → ℕ → Rule (List Edge)
file_edges w f = and_then (imports_rule w.layout w.names f (unit_at w.files f)) (λ i. done (import_edges w.layout f i))

-- the diagnostics of the imports of a file: by what they mean, and, when its rows are closed, by what single static ones bring
abbrev pub file_ending : FolderOf → ℕ → Rule (List DiagOf)
file_ending w f =
    and_then (imports_rule w.layout w.names f (unit_at w.files f))
    (λ i. and_then (statics_rule w.layout w.names f (unit_at w.files f).imports) (λ ds. done (i.diags ++ ds)))

-- the rows of a file that its unit writes
abbrev pub file_rows : LayoutOf → ℕ → List (Scope × ℕ)
file_rows l f = (file_scope l f, SIMP) ∷ (file_scope l f, ODI) ∷ []

-- the one stage of a file: its imports
abbrev pub file_stage : FolderOf → ℕ → Stage JavaDatum JavaPred
file_stage w f = edges_stage (file_rows w.layout f) (file_edges w f)

-- the stages of a file
abbrev pub file_stages : FolderOf → ℕ → List (Stage JavaDatum JavaPred)
file_stages w f = file_stage w f ∷ []

-- ---- types

-- the supertypes that the header of a type gives
abbrev pub type_row : FolderOf → ℕ → Rule (List Scope)
type_row w t = header_row w.layout w.names (type_scope w.layout t) (extends_of (decl_at w.files t)) (implements_of (decl_at w.files t))

-- ---- the members of a type

-- the name of a type
abbrev pub class_of : FolderOf → ℕ → NameId
class_of w t = (name_of (decl_at w.files t)).id

-- the signature of the member with a number, which a type declares
abbrev pub member_signature : FolderOf → ℕ → ℕ → Rule Signature
member_signature w t m = signature_rule w.layout w.names (type_scope w.layout t) (class_of w t) (own_at w.files m)

-- a stage for a member: the datum of its signature
abbrev pub signature_datum : FolderOf → ℕ → ℕ → Rule JavaDatum
signature_datum w t m = and_then (member_signature w t m) (λ s. done s.datum)

-- the stage of a member: the datum of its signature is set at the signature's scope
abbrev pub signature_stage : FolderOf → ℕ → ℕ → Stage JavaDatum JavaPred
signature_stage w t m = datum_stage (signature_of_member w.layout m) (signature_datum w t m)

-- ---- what is checked of a type

-- the diagnostics of the declaration of a member itself
abbrev pub declaration_part : FolderOf → ℕ → ℕ → List DiagOf
declaration_part w t m = member_diags w.layout w.names (type_scope w.layout t) (class_of w t) (member_scope w.layout m) (own_at w.files m)

-- those of the types in its signature, and of the declaration
abbrev pub declaration_rule : FolderOf → ℕ → ℕ → Rule (List DiagOf)
declaration_rule w t m = and_then (member_signature w t m) (λ s. done (s.diags ++ declaration_part w t m))

-- the methods that the type has are asked for first; of them alone nothing is said
abbrev pub methods_rule : FolderOf → ℕ → Rule (List DiagOf)
methods_rule w t = ask (for_any METHODS (type_scope w.layout t)) (λ a. done [])

-- those of a method against what it is declared over
abbrev pub overriding_rule : FolderOf → ℕ → ℕ → Rule (List DiagOf)
overriding_rule w t m = overrides w.layout w.names (type_scope w.layout t) (name_of (decl_at w.files t)) (member_scope w.layout m) (own_at w.files m)

-- those of the methods that meet in the type
abbrev pub meeting_rule : FolderOf → ℕ → Rule (List DiagOf)
meeting_rule w t = inherited_rule w.layout w.names (type_scope w.layout t) (name_of (decl_at w.files t))

-- those of the constructor that a constructor calls without a super call
abbrev pub calling_rule : FolderOf → ℕ → ℕ → Rule (List DiagOf)
calling_rule w t m = ctor_rule w.layout w.names (type_scope w.layout t) (extends_of (decl_at w.files t)) (own_at w.files m)

-- those of a body or an initializer, and of the flow through it
abbrev pub body_rule : FolderOf → ℕ → List Scope → ℕ → Rule (List DiagOf)
body_rule w t blanks m = and_then (member_body w t blanks m) (λ ds. done (ds ++ member_flow w t m))

-- the diagnostics of a check of a type with these blank fields
unfoldable pub check_rule : FolderOf → ℕ → List Scope → Check → Rule (List DiagOf)
check_rule w t blanks (declaration m) = declaration_rule w t m
check_rule w t blanks methods = methods_rule w t
check_rule w t blanks (overriding m) = overriding_rule w t m
check_rule w t blanks meeting = meeting_rule w t
check_rule w t blanks (calling m) = calling_rule w t m
check_rule w t blanks (body m) = body_rule w t blanks m

-- of some checks, behind the diagnostics so far
unfoldable pub with_checks : FolderOf → ℕ → List Scope → List DiagOf → List Check → Rule (List DiagOf)
with_checks w t blanks ds [] = done ds
with_checks w t blanks ds (c ∷ cs) = and_then (check_rule w t blanks c) (λ p. with_checks w t blanks (ds ++ p) cs)

-- and of all checks of a type
abbrev pub all_checks : FolderOf → ℕ → List DiagOf → Rule (List DiagOf)
all_checks w t ds = with_checks w t (type_blanks w t) ds (checks_of (members_of_type w.layout t))

-- ---- the diagnostics of a type

-- the diagnostics of a type itself, whose header and dependence are known
abbrev pub type_part : FolderOf → ℕ → Header → List DiagOf → List DiagOf
type_part w t h ds = (h.diags ++ ds) ++ declared_diags w.layout w.names (type_scope w.layout t) (name_of (decl_at w.files t)) (mods_of (decl_at w.files t))

-- the header of a type
abbrev pub type_header : FolderOf → ℕ → Rule Header
type_header w t = header_rule w.layout w.names (type_scope w.layout t) (extends_of (decl_at w.files t)) (implements_of (decl_at w.files t))

-- the diagnostics of its dependence on itself, by its row
abbrev pub type_dependence : FolderOf → ℕ → List Scope → Rule (List DiagOf)
type_dependence w t row = depends_rule w.layout w.names (type_scope w.layout t) (name_of (decl_at w.files t)) row

-- the diagnostics of a type itself, whose header is known: of that, of its dependence on itself, and of its declaration
abbrev pub behind_header : FolderOf → ℕ → Header → Rule (List DiagOf)
behind_header w t h = and_then (type_dependence w t h.row) (λ ds. done (type_part w t h ds))

-- the diagnostics of a type itself
abbrev pub head_ending : FolderOf → ℕ → Rule (List DiagOf)
head_ending w t = and_then (type_header w t) (behind_header w t)

-- the diagnostics of a type: of itself, and of all that is checked of its members
abbrev pub type_ending : FolderOf → ℕ → Rule (List DiagOf)
type_ending w t = and_then (head_ending w t) (all_checks w t)

-- the first stage of a type: its supertypes
abbrev pub type_stage : FolderOf → ℕ → Stage JavaDatum JavaPred
type_stage w t = row_stage (type_scope w.layout t) EXT (type_row w t)

-- the stages of a type: its supertypes, and then the signature of each member
abbrev pub type_stages : FolderOf → ℕ → List (Stage JavaDatum JavaPred)
type_stages w t = type_stage w t ∷ map (signature_stage w t) (members_of_type w.layout t)

-- ---- units

-- the stages of the unit with a number: the units of types stand behind those of files
abbrev pub unit_stages : FolderOf → ℕ → List (Stage JavaDatum JavaPred)
unit_stages w u = cond (nat_lt u (length w.layout.files)) (file_stages w u) (type_stages w (u - length w.layout.files))

-- what is left out for the first two files, which are the prelude's
abbrev pub beyond_prelude : ℕ → Rule (List DiagOf) → Rule (List DiagOf)
beyond_prelude file r = cond (nat_lt file 2) (done []) r

-- the diagnostics of the imports of a file; none for a file of the prelude
abbrev pub own_file_ending : FolderOf → ℕ → Rule (List DiagOf)
own_file_ending w f = beyond_prelude f (file_ending w f)

-- the diagnostics of a type; none for a type of a file of the prelude
abbrev pub own_type_ending : FolderOf → ℕ → Rule (List DiagOf)
own_type_ending w t = beyond_prelude (file_of w.layout (type_scope w.layout t)) (type_ending w t)

-- what the unit with a number comes to
abbrev pub unit_ending : FolderOf → ℕ → Rule (List DiagOf)
unit_ending w u = cond (nat_lt u (length w.layout.files)) (own_file_ending w u) (own_type_ending w (u - length w.layout.files))

-- the unit of a file writes its imports, and comes to their diagnostics; the unit of a type writes its supertypes and the signatures of its members,
-- and comes to its diagnostics
abbrev pub java_plan : FolderOf → ℕ → JavaPlan
java_plan w u = record {
  unit = u;
  opening = opened_of (skeleton_of w.layout);
  kinds = w.kinds;
  preds = java_preds w.names;
  stages = unit_stages w u;
  ending = unit_ending w u;
}
