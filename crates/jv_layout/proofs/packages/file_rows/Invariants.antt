use Rattle.std.proofs.Common.{◌≡◌, map, take}
use Rattle.jv_tree.specs.DeclTree.{tree_of}
use Rattle.jv_layout.specs.Folder.{file_row}
use Rattle.jv_layout.specs.Paths.{path_at}
use Rattle.jv_layout.proofs.packages.file_rows.Given as goal

abbrev pub invariant-loop-file : goal.invariant-loop-file
invariant-loop-file l = l.rows.items ≡ map (λ u. file_row l.names (map (path_at (map tree_of l.files)) l.paths) (tree_of u)) (take l.file l.files)
