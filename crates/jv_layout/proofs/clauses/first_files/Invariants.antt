use Rattle.std.proofs.Common.{◌≡◌, ℕ, ◌+◌, ◌++◌, length, map, take, Some}
use Rattle.std.specs.List.{slice_get}
use Rattle.jv_tree.specs.DeclTree.{tree_of}
use Rattle.jv_layout.specs.Paths.{clause_at, path_at}
use Rattle.jv_layout.specs.Skeleton.{below}
use Rattle.jv_layout.specs.Steps.{steps_in, AreSteps, FindsSame}
use Rattle.jv_layout.proofs.clauses.first_files.Given as goal

abbrev pub invariant-loop-len : goal.invariant-loop-len
invariant-loop-len l = record {
  outer : take l.len (clause_at (map tree_of l.files) l.outer) ≡ take l.len (clause_at (map tree_of l.files) l.file);
  long : length l.firsts.items ≡ l.len;
  firsts : (k h : ℕ) → slice_get l.firsts.items k ≡ Some h → take (k + 1) (clause_at (map tree_of l.files) h) ≡ take (k + 1) (clause_at (map tree_of l.files) l.file);
  steps : AreSteps (map tree_of l.files) (steps_in l.found.entries) l.packages.items;
  packages : FindsSame (map (path_at (map tree_of l.files)) l.packages.items) (map (path_at (map tree_of l.files)) l.initial.packages.items ++ map (λ k. take (k + 1) (clause_at (map tree_of l.files) l.file)) (below l.len));
}
