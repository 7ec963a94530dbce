use Rattle.std.proofs.Common.{◌≡◌, ◌+◌, ◌<◌, ◌^◌, length, map, take}
use Rattle.std.specs.List.{sum_by}
use Rattle.jv_tree.specs.DeclTree.{type_decl_tree, tree_of}
use Rattle.jv_layout.specs.Folder.{clause_of}
use Rattle.jv_layout.specs.Sizes.{decl_names}
use Rattle.jv_layout.proofs.folder_size.unit_names.Given as goal

abbrev pub invariant-loop-decl : goal.invariant-loop-decl
invariant-loop-decl l =
    (l.count < 2 ^ 28 → l.count ≡ length (clause_of (tree_of l.file)) + sum_by decl_names (map type_decl_tree (take l.decl-index l.file.types.items)))
    × (length (clause_of (tree_of l.file)) + sum_by decl_names (map type_decl_tree (take l.decl-index l.file.types.items)) < 2 ^ 28 → l.count ≡ length (clause_of (tree_of l.file)) + sum_by decl_names (map type_decl_tree (take l.decl-index l.file.types.items)))
