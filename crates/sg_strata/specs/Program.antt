-- Headers as rules over a graph, and the graphs and states in which some types have their supertypes.
use Rattle.std.specs.Prelude.{◌≡◌, ℕ, ◌<◌, List, ◌++◌, map, Bool, not}
use Rattle.std.specs.List.{Contains, filter, flat_map}
use Rattle.sg_base.specs.declared.scope.Scope.{Scope}
use Rattle.sg_base.specs.Graph.{Edge, GraphOf, IsGraph, HasScope, HasEdge, edge_cmp}
use Rattle.sg_base.specs.Label.{Word}
use Rattle.sg_base.specs.State.{State}
use Rattle.sg_expr.specs.Word.{In}
use Rattle.sg_query.specs.declared.answer.Answer.{Answer}
use Rattle.sg_query.specs.Answer.{IsAnswer}
use Rattle.sg_query.specs.Query.{Asked}
use Rattle.sg_query.specs.State.{IsSettled, RowBlocks}
use Rattle.sg_reading.specs.Reading.{Reading, Gives, Asks, AllAsked, AllEnds}
use Rattle.sg_strata.specs.List.{set_of}

-- the graph before any header is read; its types, each with the rule of its header, which gives the types above it; the scopes whose datum comes
-- later; the labels of the edges to a supertype and to such a scope; and what a query asks of a graph
pub record Program (Q D : Type 0) : Type 0 where
  pub skeleton : GraphOf D
  pub types : List Scope
  pub header : Scope → Reading Q (Answer D) (List Scope)
  pub signatures : List Scope
  pub super_label : ℕ
  pub signature_label : ℕ
  pub asked : Q → Asked D

-- headers ask from scopes of the skeleton alone, and give scopes of it alone
pub record IsProgram {Q D : Type 0} (p : Program Q D) : Type 0 where
  pub graph : IsGraph p.skeleton
  pub labelled : p.super_label < 16
  pub placed : (c : Scope) → Contains p.types c → HasScope p.skeleton c
  pub asks : (c : Scope) → Contains p.types c → AllAsked (λ q. HasScope p.skeleton (p.asked q).start) (p.header c)
  pub gives : (c : Scope) → Contains p.types c → AllEnds (λ ts. (t : Scope) → Contains ts t → HasScope p.skeleton t) (p.header c)

-- the query starts at no signature and follows no step to one
pub record IsPlain {Q D : Type 0} (p : Program Q D) (q : Q) : Type 0 where
  pub words : (w : Word) → In (p.asked q).expr w → Contains w p.signature_label → ⊥
  pub start : Contains p.signatures (p.asked q).start → ⊥

-- headers look at no signature
pub record IsQuiet {Q D : Type 0} (p : Program Q D) : Type 0 where
  pub asks : (c : Scope) → Contains p.types c → AllAsked (IsPlain p) (p.header c)
  pub gives : (c : Scope) → Contains p.types c → AllEnds (λ ts. (t : Scope) → Contains ts t → Contains p.signatures t → ⊥) (p.header c)
  pub reached : (s : Scope) (l : ℕ) (t : Scope) → HasEdge p.skeleton s l t → Contains p.signatures t → l ≡ p.signature_label

-- the edges from a type to its supertypes
abbrev pub row_edges : {Q D : Type 0} → Program Q D → (Scope → List Scope) → Scope → List Edge
row_edges p row c = map (λ t. record { from = c; label = p.super_label; to = t }) (row c)

-- the state in which these types have these supertypes, the rows of all other types are open, and no signature is set
abbrev pub state_with : {Q D : Type 0} → Program Q D → (Scope → Bool) → (Scope → List Scope) → State D
state_with p closed row = record {
  graph = record {
    scopes = p.skeleton.scopes;
    edges = set_of edge_cmp (p.skeleton.edges ++ flat_map (row_edges p row) (filter closed p.types));
    given = p.skeleton.given;
  };
  open_rows = map (λ c. (c, p.super_label)) (filter (λ c. not (closed c)) p.types);
  unset = p.signatures;
}

-- the skeleton with these supertypes of these types
abbrev pub graph_with : {Q D : Type 0} → Program Q D → (Scope → Bool) → (Scope → List Scope) → GraphOf D
graph_with p closed row = (state_with p closed row).graph

-- the query has this answer in the graph
abbrev pub AnswersIn : {Q D : Type 0} → Program Q D → GraphOf D → Q → Answer D → Type 0
AnswersIn p g q a = IsAnswer g (p.asked q) a

-- the query is settled in the state, with this answer
abbrev pub AnswersSettled : {Q D : Type 0} → Program Q D → State D → Q → Answer D → Type 0
AnswersSettled p h q a = IsSettled h (p.asked q) × IsAnswer h.graph (p.asked q) a

-- the first query of a type's header that is not settled
abbrev pub IsFirstOpen : {Q D : Type 0} → Program Q D → State D → Scope → Q → Type 0
IsFirstOpen p h c q = Asks (AnswersSettled p h) (p.header c) q × (IsSettled h (p.asked q) → ⊥)

-- all queries of a type's header are settled, and it gives these supertypes
abbrev pub IsHeaderRow : {Q D : Type 0} → Program Q D → State D → Scope → List Scope → Type 0
IsHeaderRow {Q} p h c ts = (qs : List Q) × Gives (AnswersSettled p h) (p.header c) ts qs

-- the query waits for the supertypes of this type
abbrev pub IsNeeded : {Q D : Type 0} → Program Q D → State D → Q → Scope → Type 0
IsNeeded p h q c = Contains p.types c × RowBlocks h (p.asked q) c p.super_label
