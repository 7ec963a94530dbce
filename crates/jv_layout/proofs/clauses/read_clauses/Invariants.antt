use Rattle.std.proofs.Common.{◌≡◌, length, map, take}
use Rattle.std.specs.List.{flat_map}
use Rattle.jv_tree.specs.DeclTree.{tree_of}
use Rattle.jv_layout.specs.Folder.{prefixes, clause_of}
use Rattle.jv_layout.specs.Paths.{path_at, AreFirstFiles}
use Rattle.jv_layout.specs.Steps.{steps_in, AreSteps, FindsSame}
use Rattle.jv_layout.proofs.clauses.read_clauses.Given as goal

abbrev pub invariant-loop-file : goal.invariant-loop-file
invariant-loop-file l = record {
  long : length l.firsts.items ≡ l.file;
  firsts : AreFirstFiles (map tree_of l.files) (map (λ v. v.items) l.firsts.items);
  steps : AreSteps (map tree_of l.files) (steps_in l.found.entries) l.packages.items;
  packages : FindsSame (map (path_at (map tree_of l.files)) l.packages.items) (flat_map (λ u. prefixes (clause_of u)) (take l.file (map tree_of l.files)));
}
