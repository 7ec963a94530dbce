-- Laws of headers and imports.
use Rattle.std.specs.Prelude.{◌≡◌, ℕ, ◌⊎◌, ◌↔◌, List, length, map, Bool}
use Rattle.std.specs.List.{Contains}
use Rattle.sg_base.specs.declared.scope.Scope.{Scope}
use Rattle.sg_base.specs.Graph.{GraphOf, IsGraph, HasScope, HasEdge}
use Rattle.sg_query.specs.declared.query.Query.{Query}
use Rattle.sg_reading.specs.Reading.{AllAsked}
use Rattle.sg_strata.specs.Program.{Program, IsProgram, IsQuiet, graph_with}
use Rattle.sg_strata.specs.Strata.{IsStratified, IsGreatest}
use Rattle.jv_instance.specs.declared.datum.JavaDatum.{JavaDatum}
use Rattle.jv_instance.specs.declared.labels.TheConstants.{EXT, SIG}
use Rattle.jv_instance.specs.declared.pred.JavaPred.{JavaPred}
use Rattle.jv_layout.specs.Folder.{LayoutOf}
use Rattle.jv_layout.specs.Linked.{IsLinked}
use Rattle.jv_layout.specs.Readers.{types_of}
use Rattle.jv_layout.specs.Scopes.{signature_of_member}
use Rattle.jv_layout.specs.Skeleton.{below, skeleton_of}
use Rattle.jv_tree.specs.declared.name.Ident.{Ident}
use Rattle.jv_tree.specs.DeclTree.{ImportTree, UnitTree}
use Rattle.jv_names.specs.declared.kinds.TheConstants.{OWNTYPE, SUBPKG}
use Rattle.jv_names.specs.Kinds.{asked_by}
use Rattle.jv_names.specs.Law.{ReadsOnlyItsQueries}
use Rattle.jv_names.specs.Reference.{reference}
use Rattle.jv_header.specs.Depends.{depends_rule}
use Rattle.jv_header.specs.Header.{header_rule, header_row}
use Rattle.jv_header.specs.Imports.{imports_rule}
use Rattle.jv_header.specs.StaticImports.{statics_rule}

-- ---- a rule looks at a graph by its own queries alone

-- the rule of the header of a type looks at a graph by its own queries alone
abbrev pub HeadersReadOnlyTheirQueries : Type 0
HeadersReadOnlyTheirQueries = (l : LayoutOf) (names : List (List ℕ)) (c : Scope) (extends implements : List (List Ident)) → ReadsOnlyItsQueries (header_rule l names c extends implements)

-- the rule of the dependence of a type on itself, by its row, looks at a graph by its own queries alone
abbrev pub DependencesReadOnlyTheirQueries : Type 0
DependencesReadOnlyTheirQueries = (l : LayoutOf) (names : List (List ℕ)) (c : Scope) (name : Ident) (row : List Scope) → ReadsOnlyItsQueries (depends_rule l names c name row)

-- the rule of a reference to a type looks at a graph by its own queries alone
abbrev pub ReferencesReadOnlyTheirQueries : Type 0
ReferencesReadOnlyTheirQueries = (l : LayoutOf) (file : ℕ) (bodies : List Scope) (ids : List Ident) → ReadsOnlyItsQueries (reference l file bodies ids)

-- the rule of the imports of a file looks at a graph by its own queries alone
abbrev pub ImportsReadOnlyTheirQueries : Type 0
ImportsReadOnlyTheirQueries = (l : LayoutOf) (names : List (List ℕ)) (file : ℕ) (u : UnitTree) → ReadsOnlyItsQueries (imports_rule l names file u)

-- the rule of what the single static imports of a file bring looks at a graph by its own queries alone
abbrev pub StaticsReadOnlyTheirQueries : Type 0
StaticsReadOnlyTheirQueries = (l : LayoutOf) (names : List (List ℕ)) (file : ℕ) (is : List ImportTree) → ReadsOnlyItsQueries (statics_rule l names file is)

-- ---- headers are programs

-- the signatures of the members of a layout
abbrev pub signatures_of : LayoutOf → List Scope
signatures_of l = map (signature_of_member l) (below (length l.members))

-- the program of the headers of a layout over a graph, where each type extends and implements these names
abbrev pub program_of : LayoutOf → List (List ℕ) → (Scope → List (List Ident)) → (Scope → List (List Ident)) → GraphOf JavaDatum → Program (Query JavaPred) JavaDatum
program_of l names extends implements g = record {
  skeleton = g;
  types = types_of l;
  header = λ c. header_row l names c (extends c) (implements c);
  signatures = signatures_of l;
  super_label = EXT;
  signature_label = SIG;
  asked = asked_by;
}

-- a graph has the scopes of a layout
abbrev pub HasScopesOf : LayoutOf → GraphOf JavaDatum → Type 0
HasScopesOf l g = (s : Scope) → (HasScope g s) ↔ (Contains (skeleton_of l).scopes s)

-- edges to signatures have the label SIG
abbrev pub ReachesSignaturesBySig : LayoutOf → GraphOf JavaDatum → Type 0
ReachesSignaturesBySig l g = (s : Scope) (k : ℕ) (t : Scope) → HasEdge g s k t → Contains (signatures_of l) t → k ≡ SIG

-- a graph with the scopes of a layout that names its own rows
pub record IsOver (l : LayoutOf) (g : GraphOf JavaDatum) : Type 0 where
  pub linked : IsLinked l
  pub graph : IsGraph g
  pub scopes : HasScopesOf l g

-- whatever its clauses are, the headers of a layout ask from scopes of the graph, and give scopes of it
abbrev pub HeadersArePrograms : Type 0
HeadersArePrograms =
    (l : LayoutOf) (names : List (List ℕ)) (extends implements : Scope → List (List Ident)) (g : GraphOf JavaDatum) → IsOver l g → IsProgram (program_of l names extends implements g)

-- and they look at no signature
abbrev pub HeadersAreQuiet : Type 0
HeadersAreQuiet =
    (l : LayoutOf) (names : List (List ℕ)) (extends implements : Scope → List (List Ident)) (g : GraphOf JavaDatum)
    → IsOver l g → ReachesSignaturesBySig l g → IsQuiet (program_of l names extends implements g)

-- two stratified pairs with one set of types have equal graphs, over each graph with the scopes of a layout
abbrev pub HeadersHaveOneGraph : Type 0
HeadersHaveOneGraph =
    (l : LayoutOf) (names : List (List ℕ)) (extends implements : Scope → List (List Ident)) (g : GraphOf JavaDatum) → IsOver l g → (in_set : Scope → Bool) (row row' : Scope → List Scope)
    → IsStratified (program_of l names extends implements g) in_set row → IsStratified (program_of l names extends implements g) in_set row'
    → graph_with (program_of l names extends implements g) in_set row ≡ graph_with (program_of l names extends implements g) in_set row'

-- and at most one pair is the greatest
abbrev pub HeadersHaveOneGreatest : Type 0
HeadersHaveOneGreatest =
    (l : LayoutOf) (names : List (List ℕ)) (extends implements : Scope → List (List Ident)) (g : GraphOf JavaDatum) → IsOver l g → (in_set in_set' : Scope → Bool) (row row' : Scope → List Scope)
    → IsGreatest (program_of l names extends implements g) in_set row → IsGreatest (program_of l names extends implements g) in_set' row'
    → ((c : Scope) → Contains (types_of l) c → in_set c ≡ in_set' c) × (graph_with (program_of l names extends implements g) in_set row ≡ graph_with (program_of l names extends implements g) in_set' row')

-- a query asks for the types, or for the packages, that a package or a type declares itself
abbrev pub AsksForOwn : Query JavaPred → Type 0
AsksForOwn q = (q.kind ≡ OWNTYPE) ⊎ (q.kind ≡ SUBPKG)

-- whatever the answers, the names of a file's imports ask such queries alone: what they ask depends on no row that is open at the opening
abbrev pub ImportsAskForOwn : Type 0
ImportsAskForOwn = (l : LayoutOf) (names : List (List ℕ)) (file : ℕ) (u : UnitTree) → AllAsked AsksForOwn (imports_rule l names file u)
