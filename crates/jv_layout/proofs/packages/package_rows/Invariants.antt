use Rattle.std.proofs.Common.{◌≡◌, map, take}
use Rattle.jv_tree.specs.DeclTree.{tree_of}
use Rattle.jv_layout.specs.Folder.{package_row}
use Rattle.jv_layout.specs.Paths.{path_at}
use Rattle.jv_layout.proofs.packages.package_rows.Given as goal

abbrev pub invariant-loop-p : goal.invariant-loop-p
invariant-loop-p l = l.rows.items ≡ map (λ p. package_row l.names (map (path_at (map tree_of l.files)) l.paths) (path_at (map tree_of l.files) p)) (take l.p-index l.paths)
