-- Graphs that get scopes, edges or data.
use Rattle.std.specs.Prelude.{◌≡◌, List, ◌⊎◌, ◌↔◌}
use Rattle.std.specs.List.{Contains}
use Rattle.sg_base.specs.declared.scope.Scope.{Scope}
use Rattle.sg_base.specs.Graph.{Edge, GraphOf, HasScope, HasNoDatum}
use Rattle.sg_base.specs.List.{IsDistinct}

-- the new list has what the old one has, and these things
abbrev pub Gains : {X : Type 0} → List X → List X → List X → Type 0
Gains {X} old new more = (x : X) → (Contains new x) ↔ (Contains old x ⊎ Contains more x)

-- the new graph is the old one with these scopes
pub record GainsScopes {D : Type 0} (old new : GraphOf D) (more : List Scope) : Type 0 where
  pub scopes : Gains old.scopes new.scopes more
  pub edges : new.edges ≡ old.edges
  pub given : new.given ≡ old.given

-- the new graph is the old one with these edges
pub record GainsEdges {D : Type 0} (old new : GraphOf D) (more : List Edge) : Type 0 where
  pub scopes : new.scopes ≡ old.scopes
  pub edges : Gains old.edges new.edges more
  pub given : new.given ≡ old.given

-- the new graph is the old one with these data
pub record GainsData {D : Type 0} (old new : GraphOf D) (more : List (Scope × D)) : Type 0 where
  pub scopes : new.scopes ≡ old.scopes
  pub edges : new.edges ≡ old.edges
  pub given : Gains old.given new.given more

-- ---- lists that are gone through

-- what is there and what is left is what was there and all
abbrev pub Left : {X : Type 0} → List X → List X → List X → List X → Type 0
Left {X} old now left all = (x : X) → (Contains now x ⊎ Contains left x) ↔ (Contains old x ⊎ Contains all x)

-- these of all scopes are left to be added
pub record ScopesLeft {D : Type 0} (old now : GraphOf D) (left all : List Scope) : Type 0 where
  pub scopes : Left old.scopes now.scopes left all
  pub edges : now.edges ≡ old.edges
  pub given : now.given ≡ old.given

-- these of all edges are left to be added, and their ends are there
pub record EdgesLeft {D : Type 0} (old now : GraphOf D) (left all : List Edge) : Type 0 where
  pub scopes : now.scopes ≡ old.scopes
  pub edges : Left old.edges now.edges left all
  pub given : now.given ≡ old.given
  pub there : (e : Edge) → Contains left e → HasScope now e.from × HasScope now e.to

-- these of all data are left to be added, and their scopes, of which each is there and has no datum, are among these
pub record DataLeft {D : Type 0} (old now : GraphOf D) (left all : List (Scope × D)) (keys : List Scope) : Type 0 where
  pub scopes : now.scopes ≡ old.scopes
  pub edges : now.edges ≡ old.edges
  pub given : Left old.given now.given left all
  pub there : (s : Scope) → Contains keys s → HasScope now s
  pub none : (s : Scope) → Contains keys s → HasNoDatum now s
  pub distinct : IsDistinct keys
