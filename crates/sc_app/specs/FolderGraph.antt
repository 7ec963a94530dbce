-- The graphs of a folder: the skeleton with its imports, and the whole graph (JLS 7.5, 8.1.4, 8.1.5, 9.1.3).
use Rattle.std.specs.Prelude.{◌≡◌, ℕ, ◌-◌, ◌<◌, Bool, true, List, length, ◌⊎◌, ◌↔◌}
use Rattle.std.specs.List.{Contains}
use Rattle.sg_base.specs.declared.scope.Scope.{Scope}
use Rattle.sg_base.specs.Graph.{Edge, GraphOf, IsGraph, HasDatum}
use Rattle.sg_query.specs.declared.query.Query.{Query}
use Rattle.sg_reading.specs.Reading.{Gives}
use Rattle.sg_state.specs.Opening.{opened_of}
use Rattle.sg_strata.specs.Program.{Program, graph_with}
use Rattle.sg_strata.specs.Strata.{IsGreatest}
use Rattle.jv_instance.specs.declared.datum.JavaDatum.{JavaDatum}
use Rattle.jv_instance.specs.declared.pred.JavaPred.{JavaPred}
use Rattle.jv_layout.specs.Folder.{LayoutOf}
use Rattle.jv_layout.specs.Readers.{member_at}
use Rattle.jv_layout.specs.Scopes.{first_type, signature_of_member}
use Rattle.jv_layout.specs.Skeleton.{skeleton_of}
use Rattle.jv_names.specs.Law.{InGraph}
use Rattle.jv_header.specs.Law.{program_of}
use Rattle.jv_tree.specs.DeclTree.{TypeDeclTree}
use Rattle.jv_unit.specs.Folder.{FolderOf}
use Rattle.jv_unit.specs.Plans.{file_edges, signature_datum}
use Rattle.jv_unit.specs.Trees.{decl_at, extends_of, implements_of}

-- ---- the skeleton

-- the graph with which a run of the folder begins
abbrev pub opened_graph : LayoutOf → GraphOf JavaDatum
opened_graph l = (opened_of (skeleton_of l)).graph

-- the imports of a file give this edge at the opening
abbrev pub GivesImport : FolderOf → ℕ → Edge → Type 0
GivesImport w f e = (es : List Edge) × (qs : List (Query JavaPred)) × Gives (InGraph (opened_graph w.layout)) (file_edges w f) es qs × Contains es e

-- the graph of the opening with the edges of all imports
pub record IsSkeleton (w : FolderOf) (g : GraphOf JavaDatum) : Type 0 where
  pub graph : IsGraph g
  pub scopes : g.scopes ≡ (opened_graph w.layout).scopes
  pub given : g.given ≡ (opened_graph w.layout).given
  pub edges : (e : Edge) → (Contains g.edges e) ↔ (Contains (opened_graph w.layout).edges e ⊎ ((f : ℕ) × (f < length w.layout.files) × GivesImport w f e))

-- ---- the headers

-- the declaration of a type
abbrev pub decl_of : FolderOf → Scope → TypeDeclTree
decl_of w c = decl_at w.files (c.serial - first_type w.layout)

-- the headers of the folder's types over a graph
abbrev pub headers_of : FolderOf → GraphOf JavaDatum → Program (Query JavaPred) JavaDatum
headers_of w g = program_of w.layout w.names (λ c. extends_of (decl_of w c)) (λ c. implements_of (decl_of w c)) g

-- ---- the whole graph

-- every type
abbrev pub every_type : Scope → Bool
every_type c = true

-- the signature of a member is this datum, by the answers of a graph
abbrev pub GivesSignature : FolderOf → GraphOf JavaDatum → ℕ → JavaDatum → Type 0
GivesSignature w g m d = (qs : List (Query JavaPred)) × Gives (InGraph g) (signature_datum w (member_at w.layout m).owner m) d qs

-- a graph is another one with the data of all signatures
pub record AddsSignatures (w : FolderOf) (h g : GraphOf JavaDatum) : Type 0 where
  pub graph : IsGraph g
  pub scopes : g.scopes ≡ h.scopes
  pub edges : g.edges ≡ h.edges
  pub given : (s : Scope) (d : JavaDatum)
      → (HasDatum g s d) ↔ (HasDatum h s d ⊎ ((m : ℕ) × (m < length w.layout.members) × (s ≡ signature_of_member w.layout m) × GivesSignature w h m d))

-- the one graph of the folder: all types have the supertypes that their headers give, in ranks, and all members their signatures
pub record IsWhole (w : FolderOf) (g : GraphOf JavaDatum) : Type 0 where
  pub skeleton : GraphOf JavaDatum
  pub is_skeleton : IsSkeleton w skeleton
  pub row : Scope → List Scope
  pub greatest : IsGreatest (headers_of w skeleton) every_type row
  pub signatures : AddsSignatures w (graph_with (headers_of w skeleton) every_type row) g
