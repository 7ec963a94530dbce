-- Packages as they are found: each by that in which it directly stands and by its own name.
use Rattle.std.specs.Prelude.{◌≡◌, ℕ, ◌+◌, ◌==◌, ◌&&◌, Bool, List, [], ◌∷◌, ◌++◌, map, take, Option, Some}
use Rattle.std.specs.List.{Contains, find}
use Rattle.std.specs.Map.{lookup}
use Rattle.jv_tree.specs.declared.declaration.Unit.{Unit as File}
use Rattle.jv_tree.specs.DeclTree.{UnitTree}
use Rattle.jv_layout.specs.declared.clauses.Step.{Step}
use Rattle.jv_layout.specs.declared.packages.Prefix.{Prefix}
use Rattle.jv_layout.specs.Paths.{clause_at, path_at, prefix_paths}

-- two steps are the same
abbrev pub is_step : Step → Step → Bool
is_step a b = (a.file == b.file) && ((a.len == b.len) && (a.name.0 == b.name.0))

-- the file that is found for a step
abbrev pub steps_in : List (Step × ℕ) → Step → Option ℕ
steps_in es s = lookup (is_step s) es

-- what is found for a step is a file whose clause begins with the names of the step, and that package is one of a list
pub record AreSteps (units : List UnitTree) (found : Step → Option ℕ) (ps : List Prefix) : Type 0 where
  pub same : (s : Step) (h : ℕ) → found s ≡ Some h → take (s.len + 1) (clause_at units h) ≡ take s.len (clause_at units s.file) ++ s.name.0 ∷ []
  pub there : (s : Step) (h : ℕ) → found s ≡ Some h → Contains (map (path_at units) ps) (take (s.len + 1) (clause_at units h))

-- each test finds the same first thing in two lists
pub record FindsSame {X : Type 0} (xs ys : List X) : Type 0 where
  pub each : (p : X → Bool) → find p xs ≡ find p ys

-- each test finds the same first thing in packages as they are now as in those before with these behind them
abbrev pub FindsAdded : List File → List Prefix → List Prefix → List (List ℕ) → Type 0
FindsAdded files old new added = FindsSame (prefix_paths files new) (prefix_paths files old ++ added)
