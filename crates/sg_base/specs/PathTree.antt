-- Paths that start at one scope and share their fronts.
use Rattle.std.specs.Prelude.{◌≡◌, ℕ, zero, suc, ◌≤◌, ◌<◌, List, [], ◌∷◌, ◌++◌, Option, Some, None, length, slice_index_or}
use Rattle.sg_base.specs.declared.path_node.PathNode.{PathNode}
use Rattle.sg_base.specs.declared.scope.Scope.{Scope}
use Rattle.sg_base.specs.declared.step.Step.{Step}
use Rattle.sg_base.specs.Path.{PathOf}

-- where the paths start, and the steps of each
pub record PathTreeOf : Type 0 where
  pub start : Scope
  pub paths : List (List Step)

-- the path at a place, if there is one
abbrev pub path_at : List (List Step) → ℕ → List Step
path_at [] k = []
path_at (p ∷ ps) zero = p
path_at (p ∷ ps) (suc k) = path_at ps k

-- the path at a place of a tree, with its start
abbrev pub path_in : PathTreeOf → ℕ → PathOf
path_in t k = record { start = t.start; steps = path_at t.paths k }

-- the paths of nodes that come behind these
abbrev pub paths_from : List (List Step) → List PathNode → List (List Step)
paths_from acc [] = acc
paths_from acc (n ∷ ns) = paths_from (acc ++ (path_at acc n.parent ++ n.step ∷ []) ∷ []) ns

-- the paths of nodes, behind the one with no step
abbrev pub paths_of : List PathNode → List (List Step)
paths_of nodes = paths_from ([] ∷ []) nodes

-- the tree of nodes
abbrev pub tree_of : Scope → List PathNode → PathTreeOf
tree_of start nodes = record { start = start; paths = paths_of nodes }

-- this path is that of the node's parent with the node's step, and as long as the node says
pub record IsLaid (paths : List (List Step)) (n : PathNode) (k : ℕ) : Type 0 where
  pub before : n.parent < k
  pub path : path_at paths k ≡ path_at paths n.parent ++ n.step ∷ []
  pub len : n.len ≡ length (path_at paths k)
  pub few : n.len ≤ k

-- each node goes on from a path in front of it, and knows how many steps it has
abbrev pub AreLaid : List PathNode → Type 0
AreLaid nodes = (i : ℕ) (n : PathNode) → i < length nodes → n ≡ slice_index_or nodes i n → IsLaid (paths_of nodes) n (suc i)

-- the steps begin with this one, or there are none
abbrev pub BeginsWith : List Step → Option Step → Type 0
BeginsWith rest None = rest ≡ []
BeginsWith rest (Some x) = (more : List Step) × (rest ≡ x ∷ more)
