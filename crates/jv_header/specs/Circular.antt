-- Headers that wait for one another.
use Rattle.std.specs.Prelude.{◌≡◌, ℕ, ◌<◌, List, [], ◌∷◌, ◌++◌, map, Bool, true, false, Option, None, Some, take, length, slice_index_or}
use Rattle.std.specs.List.{Contains}
use Rattle.std.specs.declared.cmp.Ordering.TheVariants.{Less}
use Rattle.sg_base.specs.declared.scope.Scope.{Scope}
use Rattle.sg_base.specs.Scope.{scope_cmp}
use Rattle.sg_query.specs.declared.answer.Answer.{Answer}
use Rattle.sg_query.specs.declared.query.Query.{Query}
use Rattle.sg_reading.specs.declared.known.Known.{Known}
use Rattle.sg_reading.specs.declared.known.Known.TheVariants.{Is, Need}
use Rattle.sg_reading.specs.Reading.{Gives, Needs, each}
use Rattle.jv_diag.specs.declared.codes.TheConstants.{WAITING_HEADER}
use Rattle.jv_diag.specs.Plain.{DiagOf, diagnostic}
use Rattle.jv_instance.specs.declared.datum.JavaDatum.{JavaDatum}
use Rattle.jv_instance.specs.declared.pred.JavaPred.{JavaPred}
use Rattle.jv_layout.specs.Folder.{LayoutOf}
use Rattle.jv_layout.specs.Readers.{file_of}
use Rattle.jv_layout.specs.Titles.{title_of}
use Rattle.jv_tree.specs.declared.declaration.TypeDecl.{TypeDecl}
use Rattle.jv_tree.specs.declared.name.Ident.{Ident}
use Rattle.jv_tree.specs.TypeTree.{ids_of}
use Rattle.jv_names.specs.declared.reference.Reference.{Reference}
use Rattle.jv_names.specs.Replies.{Rule}
use Rattle.jv_names.specs.Written.{start_of}
use Rattle.jv_header.specs.Header.{header_reference}

-- by these answers all references before this one are read, and it comes to a query that has none
pub record IsOpenReference (R : Query JavaPred → Answer JavaDatum → Type 0) (l : LayoutOf) (c : Scope) (names : List (List Ident)) (i : ℕ) : Type 0 where
  pub within : i < length names
  pub found : List Reference
  pub queries : List (Query JavaPred)
  pub before : Gives R (each (header_reference l c) (take i names)) found queries
  pub query : Query JavaPred
  pub needs : Needs R (header_reference l c (slice_index_or names i [])) query

-- by these answers all references of a list are read
abbrev pub AreRead : (Query JavaPred → Answer JavaDatum → Type 0) → LayoutOf → Scope → List (List Ident) → Type 0
AreRead R l c names = (found : List Reference) × (queries : List (Query JavaPred)) × Gives R (each (header_reference l c) names) found queries

-- by these answers not all references of the two clauses of a header are read
abbrev pub IsHeaderOpen : (Query JavaPred → Answer JavaDatum → Type 0) → LayoutOf → Scope → List (List Ident) → List (List Ident) → Type 0
IsHeaderOpen R l c extends implements = AreRead R l c extends → AreRead R l c implements → ⊥

-- by these answers a rule comes to some query that has none
abbrev pub NeedsSome : {U : Type 0} → (Query JavaPred → Answer JavaDatum → Type 0) → Rule U → Type 0
NeedsSome R r = (q : Query JavaPred) × Needs R r q

-- the references in the header of a declaration of the code, in order
abbrev pub references_of : TypeDecl → List (List Ident)
references_of d = map ids_of d.extends.items ++ map ids_of d.implements.items

-- the place of the first reference of a list that comes to a query without an answer; where there is no place, all are read
abbrev pub IsFirstOpen : (Query JavaPred → Answer JavaDatum → Type 0) → LayoutOf → Scope → List (List Ident) → Option ℕ → Type 0
IsFirstOpen R l c names None = AreRead R l c names
IsFirstOpen R l c names (Some i) = IsOpenReference R l c names i

-- a reply is missing
abbrev pub is_missing : Known Reference (Query JavaPred) → Bool
is_missing (Is r) = false
is_missing (Need q) = true

-- whether a reference comes to a query without an answer; else it is read
abbrev pub IsOpenOrRead : (Query JavaPred → Answer JavaDatum → Type 0) → LayoutOf → Scope → List Ident → Bool → Type 0
IsOpenOrRead R l c name true = (q : Query JavaPred) × Needs R (header_reference l c name) q
IsOpenOrRead R l c name false = (r : Reference) × (queries : List (Query JavaPred)) × Gives R (header_reference l c name) r queries

-- where the first open reference starts
abbrev pub IsOpenStart : (Query JavaPred → Answer JavaDatum → Type 0) → LayoutOf → Scope → List (List Ident) → ℕ → Type 0
IsOpenStart R l c names at = (place : ℕ) × IsOpenReference R l c names place × (at ≡ start_of (slice_index_or names place []))

-- a scope of the list that no other one comes before
pub record IsLeast (scopes : List Scope) (s : Scope) : Type 0 where
  pub there : Contains scopes s
  pub least : (t : Scope) → Contains scopes t → scope_cmp t s ≡ Less → ⊥

-- the diagnostic of a header that waits: at the first token of the reference that cannot be read, with the least type that it needs
pub record IsCircular (R : Query JavaPred → Answer JavaDatum → Type 0) (l : LayoutOf) (names : List (List ℕ)) (c : Scope) (references : List (List Ident)) (needed : List Scope) (d : DiagOf) : Type 0 where
  pub place : ℕ
  pub open_reference : IsOpenReference R l c references place
  pub other : Scope
  pub least : IsLeast needed other
  pub line : d ≡ diagnostic (file_of l c) (start_of (slice_index_or references place [])) WAITING_HEADER (title_of l names c ∷ title_of l names other ∷ [])
