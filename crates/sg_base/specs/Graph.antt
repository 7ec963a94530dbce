-- Scope graphs and their paths.
use Rattle.std.specs.Prelude.{◌≡◌, ℕ, ◌<◌, List, [], ◌∷◌, map, Bool, ◌==◌, ◌&&◌, ◌⊎◌, ◌↔◌}
use Rattle.std.specs.Cmp.{IsTotalOrder, nat_cmp_total, on_total, then_total}
use Rattle.std.specs.List.{Contains, filter}
use Rattle.std.specs.Ordering.{nat_cmp, on, then_cmp}
use Rattle.std.specs.declared.cmp.Ordering.{Ordering}
use Rattle.sg_base.specs.declared.scope.Scope.{Scope}
use Rattle.sg_base.specs.declared.step.Step.{Step}
use Rattle.sg_base.specs.List.{IsDistinct, IsRising}
use Rattle.sg_base.specs.Path.{reached_by}
use Rattle.sg_base.specs.Scope.{scope_cmp, scope_total, is_scope}

-- an edge, which stands in the row of its source and its label
pub record Edge : Type 0 where
  pub from : Scope
  pub label : ℕ
  pub to : Scope

-- the order of edges: by row, then target
abbrev pub edge_cmp : Edge → Edge → Ordering
edge_cmp = then_cmp (on (λ e. e.from) scope_cmp) (then_cmp (on (λ e. e.label) nat_cmp) (on (λ e. e.to) scope_cmp))

-- a scope graph: its scopes, its edges, and the data of some of its scopes
pub record GraphOf (D : Type 0) : Type 0 where
  pub scopes : List Scope
  pub edges : List Edge
  pub given : List (Scope × D)

-- the scope is one of the graph
abbrev pub HasScope : {D : Type 0} → GraphOf D → Scope → Type 0
HasScope g s = Contains g.scopes s

-- the graph has an edge from s to t with the label l
abbrev pub HasEdge : {D : Type 0} → GraphOf D → Scope → ℕ → Scope → Type 0
HasEdge g s l t = Contains g.edges (record { from = s; label = l; to = t })

-- the scope has this datum
abbrev pub HasDatum : {D : Type 0} → GraphOf D → Scope → D → Type 0
HasDatum g s d = Contains g.given (s, d)

-- the scope has no datum
abbrev pub HasNoDatum : {D : Type 0} → GraphOf D → Scope → Type 0
HasNoDatum {D} g s = (d : D) → HasDatum g s d → ⊥

-- scopes and edges are sets, listed in rising order, a scope has one datum at most, labels are below 16, and edges and data stand at
-- scopes of the graph
pub record IsGraph {D : Type 0} (g : GraphOf D) : Type 0 where
  pub scopes_rise : IsRising scope_cmp g.scopes
  pub edges_rise : IsRising edge_cmp g.edges
  pub data_rise : IsRising scope_cmp (map (λ p. p.0) g.given)
  pub labelled : (s : Scope) (l : ℕ) (t : Scope) → HasEdge g s l t → l < 16
  pub source : (s : Scope) (l : ℕ) (t : Scope) → HasEdge g s l t → HasScope g s
  pub target : (s : Scope) (l : ℕ) (t : Scope) → HasEdge g s l t → HasScope g t
  pub placed : (s : Scope) (d : D) → HasDatum g s d → HasScope g s

-- whether the edge stands in the row
abbrev pub is_in_row : Scope → ℕ → Edge → Bool
is_in_row s l e = is_scope e.from s && (e.label == l)

-- the targets of a row, in the order of the graph's edges
abbrev pub row_of : {D : Type 0} → GraphOf D → Scope → ℕ → List Scope
row_of g s l = map (λ e. e.to) (filter (is_in_row s l) g.edges)

-- each step is an edge that starts where the one before ends
abbrev pub IsWalk : {D : Type 0} → GraphOf D → Scope → List Step → Type 0
IsWalk g s [] = Unit {0}
IsWalk g s (p ∷ ps) = HasEdge g s p.label p.to × IsWalk g p.to ps

-- a path from a scope passes no scope twice
abbrev pub IsPath : {D : Type 0} → GraphOf D → Scope → List Step → Type 0
IsPath g s ps = IsWalk g s ps × IsDistinct (s ∷ reached_by ps)

-- the new graph is the old one with this scope, which may have been there
pub record AddsScope {D : Type 0} (old new : GraphOf D) (s : Scope) : Type 0 where
  pub scopes : (t : Scope) → (HasScope new t) ↔ (HasScope old t ⊎ (t ≡ s))
  pub edges : new.edges ≡ old.edges
  pub given : new.given ≡ old.given

-- the new graph is the old one with this edge, which may have been there
pub record AddsEdge {D : Type 0} (old new : GraphOf D) (from : Scope) (l : ℕ) (to : Scope) : Type 0 where
  pub scopes : new.scopes ≡ old.scopes
  pub edges : (e : Edge) → (Contains new.edges e) ↔ (Contains old.edges e ⊎ (e ≡ record { from = from; label = l; to = to }))
  pub given : new.given ≡ old.given

-- the new graph is the old one with this datum at this scope
pub record AddsDatum {D : Type 0} (old new : GraphOf D) (s : Scope) (d : D) : Type 0 where
  pub scopes : new.scopes ≡ old.scopes
  pub edges : new.edges ≡ old.edges
  pub given : (t : Scope) (e : D) → (HasDatum new t e) ↔ (HasDatum old t e ⊎ ((t ≡ s) × (e ≡ d)))

-- the order of edges is total
pub edge_total : IsTotalOrder edge_cmp
edge_total = then_total (on_total (λ e. e.from) scope_total) (then_total (on_total (λ e. e.label) nat_cmp_total) (on_total (λ e. e.to) scope_total))
