-- How far the checker of a file or of a type came.
use Rattle.std.specs.Prelude.{ℕ, List, [], drop, Option, IfSome, slice_index_or}
use Rattle.sg_base.specs.declared.scope.Scope.{Scope}
use Rattle.sg_query.specs.declared.answer.Answer.{Answer}
use Rattle.sg_query.specs.declared.query.Query.{Query}
use Rattle.sg_reading.specs.Progress.{HasResidual}
use Rattle.sg_reading.specs.Reading.{done, and_then}
use Rattle.jv_diag.specs.Plain.{DiagOf}
use Rattle.jv_header.specs.declared.header.Header.{Header}
use Rattle.jv_header.specs.declared.header_progress.HeaderProgress.{HeaderProgress}
use Rattle.jv_header.specs.declared.imports_progress.ImportsProgress.{ImportsProgress}
use Rattle.jv_header.specs.declared.statics_progress.StaticsProgress.{StaticsProgress}
use Rattle.jv_header.specs.ImportsProgress.{AreImportsSoFar}
use Rattle.jv_header.specs.RowProgress.{IsDependenceSoFar}
use Rattle.jv_header.specs.Progress.{IsHeaderSoFar}
use Rattle.jv_header.specs.StaticsProgress.{AreStaticsSoFar}
use Rattle.jv_expr.specs.declared.body_progress.BodyProgress.{BodyProgress}
use Rattle.jv_expr.specs.Bodies.{field_rule}
use Rattle.jv_expr.specs.Progress.{ctor_left, method_left}
use Rattle.jv_instance.specs.declared.datum.JavaDatum.{JavaDatum}
use Rattle.jv_instance.specs.declared.pred.JavaPred.{JavaPred}
use Rattle.jv_layout.specs.Folder.{LayoutOf}
use Rattle.jv_layout.specs.Readers.{members_of_type}
use Rattle.jv_layout.specs.Scopes.{member_scope, type_scope}
use Rattle.jv_member.specs.Own.{OwnMember, own_field, own_method, own_ctor, default_ctor}
use Rattle.jv_names.specs.Replies.{Rule}
use Rattle.jv_tree.specs.declared.name.Ident.{Ident}
use Rattle.jv_unit.specs.declared.begun_checks.BegunChecks.{BegunChecks}
use Rattle.jv_unit.specs.declared.begun_head.BegunHead.{BegunHead}
use Rattle.jv_unit.specs.declared.begun_type.BegunType.{BegunType}
use Rattle.jv_unit.specs.declared.begun_type.BegunType.TheVariants.{Head, Checks}
use Rattle.jv_unit.specs.Checks.{Check, declaration, methods, overriding, meeting, calling, body, checks_of}
use Rattle.jv_unit.specs.Folder.{FolderOf}
use Rattle.jv_unit.specs.MemberBodies.{member_body}
use Rattle.jv_unit.specs.Owns.{own_at}
use Rattle.jv_unit.specs.Plans.{all_checks, behind_header, check_rule, type_ending, with_checks}
use Rattle.jv_unit.specs.Trees.{decl_at, extends_of, implements_of, unit_at}

-- what is replied to each query: its answer, where that has come
abbrev pub Replies : Type 0
Replies = Query JavaPred → Option (Answer JavaDatum)

-- what is left of the body or the initializer of a member of a type
abbrev pub own_left : LayoutOf → List (List ℕ) → Scope → List (List Ident) → List Scope → Scope → OwnMember → BodyProgress → Rule (List DiagOf)
own_left l names c extends blanks s (own_field ms t v) p = field_rule l names c extends s v.init
own_left l names c extends blanks s (own_method m) p = method_left l names c extends s m p
own_left l names c extends blanks s (own_ctor k) p = ctor_left l names c extends blanks s k p
own_left l names c extends blanks s (default_ctor name) p = done []

-- what is left of the body or the initializer of the member with a number, which a type with these blank fields declares
abbrev pub member_left : FolderOf → ℕ → List Scope → ℕ → BodyProgress → Rule (List DiagOf)
member_left w t blanks m p =
    own_left w.layout w.names (type_scope w.layout t) (extends_of (decl_at w.files t)) blanks (member_scope w.layout m) (own_at w.files m) p

-- the rule of a type, as a name alone
unfoldable pub whole_rule : FolderOf → ℕ → Rule (List DiagOf)
whole_rule w t = type_ending w t

-- what of a check goes on where it stopped: of a body its own rule, without the flow through it, and else all
unfoldable pub check_begun : FolderOf → ℕ → List Scope → Check → Rule (List DiagOf)
check_begun w t blanks (declaration m) = check_rule w t blanks (declaration m)
check_begun w t blanks methods = check_rule w t blanks methods
check_begun w t blanks (overriding m) = check_rule w t blanks (overriding m)
check_begun w t blanks meeting = check_rule w t blanks meeting
check_begun w t blanks (calling m) = check_rule w t blanks (calling m)
check_begun w t blanks (body m) = member_body w t blanks m

-- what is left of that: of a body what is left of it, and else all
unfoldable pub check_left : FolderOf → ℕ → List Scope → Check → BodyProgress → Rule (List DiagOf)
check_left w t blanks (declaration m) p = check_rule w t blanks (declaration m)
check_left w t blanks methods p = check_rule w t blanks methods
check_left w t blanks (overriding m) p = check_rule w t blanks (overriding m)
check_left w t blanks meeting p = check_rule w t blanks meeting
check_left w t blanks (calling m) p = check_rule w t blanks (calling m)
check_left w t blanks (body m) p = member_left w t blanks m p

-- the check at a place of those of a type
abbrev pub check_in : FolderOf → ℕ → ℕ → Check
check_in w t place = slice_index_or (checks_of (members_of_type w.layout t)) place meeting

-- over these replies what of a check of a type goes on where it stopped does so as what is left of it
abbrev pub IsCheckSoFar : Replies → FolderOf → ℕ → List Scope → Check → BodyProgress → Type 0
IsCheckSoFar reply w t blanks k p = HasResidual reply (check_begun w t blanks k) (check_left w t blanks k p)

-- over these replies the rule of a type goes on as that of its checks from a place on, behind the diagnostics so far, and the rule of the check there
-- goes on as what is left of it
pub record AreSoFar (reply : Replies) (w : FolderOf) (t : ℕ) (b : BegunChecks) : Type 0 where
  pub rest : HasResidual reply (whole_rule w t) (with_checks w t b.blanks b.diags (drop b.place (checks_of (members_of_type w.layout t))))
  pub check : IsCheckSoFar reply w t b.blanks (check_in w t b.place) b.body

-- what is left of a type whose header is known
unfoldable pub head_left : FolderOf → ℕ → Header → Rule (List DiagOf)
head_left w t h = and_then (behind_header w t h) (all_checks w t)

-- over these replies the rule of a type goes on as what is left behind its header, and the rule of its dependence on itself as what is left of that
pub record IsHeadSoFar (reply : Replies) (w : FolderOf) (t : ℕ) (b : BegunHead) : Type 0 where
  pub rest : HasResidual reply (whole_rule w t) (head_left w t b.header)
  pub dependence : IsDependenceSoFar reply w.layout (type_scope w.layout t) b.header.row b.dependence

-- its head was begun so far, or its checks
abbrev pub IsBegunSoFar : Replies → FolderOf → ℕ → BegunType → Type 0
IsBegunSoFar reply w t (Head b) = IsHeadSoFar reply w t b
IsBegunSoFar reply w t (Checks b) = AreSoFar reply w t b

-- nothing was begun, or that was
abbrev pub IsSoFar : Replies → FolderOf → ℕ → Option BegunType → Type 0
IsSoFar reply w t o = IfSome o (IsBegunSoFar reply w t)

-- over these replies some references of the header of a type were read so far
abbrev pub IsReadSoFar : Replies → FolderOf → ℕ → HeaderProgress → Type 0
IsReadSoFar reply w t p = IsHeaderSoFar reply w.layout (type_scope w.layout t) (extends_of (decl_at w.files t)) (implements_of (decl_at w.files t)) p

-- over these replies some imports of a file were read so far
abbrev pub AreFileImportsSoFar : Replies → FolderOf → ℕ → ImportsProgress → Type 0
AreFileImportsSoFar reply w f p = AreImportsSoFar reply w.layout f (unit_at w.files f).imports p

-- over these replies some single static imports of a file were read so far
abbrev pub AreFileStaticsSoFar : Replies → FolderOf → ℕ → StaticsProgress → Type 0
AreFileStaticsSoFar reply w f p = AreStaticsSoFar reply w.layout w.names f (unit_at w.files f).imports p
