-- How nodes of a search are laid into a tree of paths of its own.
use Rattle.std.specs.Prelude.{◌≡◌, ℕ, ◌<◌, ◌⊎◌, List, [], ◌∷◌, ◌++◌, length, slice_index}
use Rattle.sg_base.specs.declared.step.Step.{Step}
use Rattle.sg_base.specs.PathTree.{path_at}

-- the path at this place of the laid paths is that of the node at that place
abbrev pub LiesAt : List (List Step) → List (List Step) → ℕ → ℕ → Type 0
LiesAt nodes laid j k = (k < length laid) × (path_at laid k ≡ path_at nodes j)

-- each node has the place where its path lies, or 0 if it is not laid; the first lies at 0
pub record IsLaying (nodes laid : List (List Step)) (places : List ℕ) : Type 0 where
  pub long : length places ≡ length nodes
  pub lies : (j : ℕ) → j < length nodes → ((slice_index places j ≡ 0) × (0 < j)) ⊎ LiesAt nodes laid j (slice_index places j)

-- these places and steps lead from the path at the first place up to that at the second, each to the next by one step less
abbrev pub IsClimb : List (List Step) → ℕ → ℕ → List (ℕ × Step) → Type 0
IsClimb nodes place top [] = (place ≡ top) × (place < length nodes)
IsClimb nodes place top (c ∷ cs) = (c.0 ≡ place) × (place < length nodes) × ((k : ℕ) × (path_at nodes place ≡ path_at nodes k ++ c.1 ∷ []) × IsClimb nodes k top cs)
