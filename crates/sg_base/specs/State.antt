-- Scope states: graphs that still grow, and what they may grow into (Van Antwerpen and Visser, "Scope States", ECOOP 2021).
use Rattle.std.specs.Prelude.{ℕ, List, [], ◌∷◌, ◌⊎◌}
use Rattle.std.specs.List.{Contains}
use Rattle.sg_base.specs.declared.scope.Scope.{Scope}
use Rattle.sg_base.specs.declared.step.Step.{Step}
use Rattle.sg_base.specs.Graph.{GraphOf, HasScope, HasEdge, HasDatum, IsPath}

-- a graph, the rows that may get further edges, and the scopes that may get a datum
pub record State (D : Type 0) : Type 0 where
  pub graph : GraphOf D
  pub open_rows : List (Scope × ℕ)
  pub unset : List Scope

-- the row may get further edges
abbrev pub IsOpen : {D : Type 0} → State D → Scope → ℕ → Type 0
IsOpen h s l = Contains h.open_rows (s, l)

-- the scope may get a datum
abbrev pub IsUnset : {D : Type 0} → State D → Scope → Type 0
IsUnset h s = Contains h.unset s

-- the graph has all of the state's graph, and what it has further stands where the state lets it: at an open row, at an unset scope, or at
-- a scope that the state lacks
pub record Extends {D : Type 0} (h : State D) (g : GraphOf D) : Type 0 where
  pub scopes : (s : Scope) → HasScope h.graph s → HasScope g s
  pub edges : (s : Scope) (l : ℕ) (t : Scope) → HasEdge h.graph s l t → HasEdge g s l t
  pub given : (s : Scope) (d : D) → HasDatum h.graph s d → HasDatum g s d
  pub further_edges : (s : Scope) (l : ℕ) (t : Scope) → HasEdge g s l t → HasEdge h.graph s l t ⊎ (IsOpen h s l ⊎ (HasScope h.graph s → ⊥))
  pub further_given : (s : Scope) (d : D) → HasDatum g s d → HasDatum h.graph s d ⊎ (IsUnset h s ⊎ (HasScope h.graph s → ⊥))

-- the later state's graph extends the earlier state, and what is open or unset there at a scope that was there before was so before
pub record Follows {D : Type 0} (before after : State D) : Type 0 where
  pub extends : Extends before after.graph
  pub rows : (s : Scope) (l : ℕ) → IsOpen after s l → IsOpen before s l ⊎ (HasScope before.graph s → ⊥)
  pub data_at : (s : Scope) → IsUnset after s → IsUnset before s ⊎ (HasScope before.graph s → ⊥)

-- no step from this scope on stands in an open row
abbrev pub PassesClosed : {D : Type 0} → State D → Scope → List Step → Type 0
PassesClosed h s [] = Unit {0}
PassesClosed h s (p ∷ ps) = (IsOpen h s p.label → ⊥) × PassesClosed h p.to ps

-- a path of the state none of whose edges stands in an open row
abbrev pub IsClosedPath : {D : Type 0} → State D → Scope → List Step → Type 0
IsClosedPath h s ps = IsPath h.graph s ps × PassesClosed h s ps

-- what extends a later state extends the state before it
abbrev pub ExtendsChains : Type 0 → Type 0
ExtendsChains D = (a b : State D) (g : GraphOf D) → Follows a b → Extends b g → Extends a g

-- what follows a later state follows the state before it
abbrev pub FollowsChains : Type 0 → Type 0
FollowsChains D = (a b c : State D) → Follows a b → Follows b c → Follows a c
