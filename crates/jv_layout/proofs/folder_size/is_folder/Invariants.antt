use Rattle.std.proofs.Common.{◌≡◌, ◌<◌, ◌^◌, map, take}
use Rattle.std.specs.List.{sum_by}
use Rattle.jv_tree.specs.DeclTree.{tree_of}
use Rattle.jv_layout.specs.Sizes.{unit_names}
use Rattle.jv_layout.proofs.folder_size.is_folder.Given as goal

abbrev pub invariant-loop-file : goal.invariant-loop-file
invariant-loop-file l =
    (l.count < 2 ^ 28 → l.count ≡ sum_by unit_names (map tree_of (take l.file-index l.files)))
    × (sum_by unit_names (map tree_of (take l.file-index l.files)) < 2 ^ 28 → l.count ≡ sum_by unit_names (map tree_of (take l.file-index l.files)))
