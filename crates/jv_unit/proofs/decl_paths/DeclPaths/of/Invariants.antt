use Rattle.std.proofs.Common.{◌≡◌, ◌++◌, map, drop}
use Rattle.jv_tree.specs.DeclTree.{tree_of}
use Rattle.jv_unit.specs.Paths.{paths_from}
use Rattle.jv_unit.proofs.decl_paths.DeclPaths.of.Given as goal

abbrev pub invariant-loop-file : goal.invariant-loop-file
invariant-loop-file l = l.paths ++ paths_from l.file (map tree_of (drop l.file l.files)) ≡ paths_from 0 (map tree_of l.files)
