-- Paths that were found, by their places in a tree of paths.
use Rattle.std.specs.Prelude.{◌≡◌, ℕ, ◌<◌, List, [], ◌∷◌, ◌++◌, length, slice_index_or}
use Rattle.std.specs.List.{AllByRecursion}
use Rattle.sg_base.specs.declared.scope.Scope.{Scope}
use Rattle.sg_base.specs.declared.step.Step.{Step}
use Rattle.sg_base.specs.Path.{shared_len}
use Rattle.sg_base.specs.PathTree.{PathTreeOf, path_in}
use Rattle.sg_query.specs.declared.found.Found.{Found}
use Rattle.sg_query.specs.declared.found_at.FoundAt.{FoundAt}

-- where the paths start, and each path with its datum
pub record FoundTreeOf (D : Type 0) : Type 0 where
  pub start : Scope
  pub found : List (Found D)

-- these found paths and one more behind them, by its steps and with this datum
abbrev pub with_path : {D : Type 0} → FoundTreeOf D → List Step → D → FoundTreeOf D
with_path t ps d = record { start = t.start; found = t.found ++ record { path = record { start = t.start; steps = ps }; datum = d } ∷ [] }

-- the path at a place of a tree, with its datum
abbrev pub found_in : {D : Type 0} → PathTreeOf → FoundAt D → Found D
found_in t f = record { path = path_in t f.place; datum = f.datum }

-- each place is one of the tree
abbrev pub AreThere : {D : Type 0} → PathTreeOf → List (FoundAt D) → Type 0
AreThere t fs = AllByRecursion (λ f. f.place < length t.paths) fs

-- the paths at two places of a list start at one scope, and so many steps are the same at the beginning of both
pub record ShareSteps {D : Type 0} (fs : List (Found D)) (j k n : ℕ) : Type 0 where
  pub start : (f g : Found D) → f ≡ slice_index_or fs j f → g ≡ slice_index_or fs k g → f.path.start ≡ g.path.start
  pub len : (f g : Found D) → f ≡ slice_index_or fs j f → g ≡ slice_index_or fs k g → n ≡ shared_len f.path.steps g.path.steps
