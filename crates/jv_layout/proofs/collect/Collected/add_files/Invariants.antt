use Rattle.std.proofs.Common.{◌≡◌, ◌++◌, length, map, drop}
use Rattle.jv_tree.specs.DeclTree.{tree_of}
use Rattle.jv_layout.specs.Folder.{types_from, members_from}
use Rattle.jv_layout.proofs.collect.Collected.add_files.Given as goal

abbrev pub invariant-loop-file : goal.invariant-loop-file
invariant-loop-file l = record {
  types : l.self.types.items ++ types_from l.file (length l.self.types.items) (map tree_of (drop l.file l.files)) ≡ types_from 0 0 (map tree_of l.files);
  members : l.self.members.items ++ members_from (length l.self.types.items) (map tree_of (drop l.file l.files)) ≡ members_from 0 (map tree_of l.files);
}
