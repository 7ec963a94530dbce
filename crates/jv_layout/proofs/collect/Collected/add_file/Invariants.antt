use Rattle.std.proofs.Common.{◌≡◌, ◌++◌, length, map, drop}
use Rattle.jv_tree.specs.DeclTree.{type_decl_tree}
use Rattle.jv_layout.specs.Folder.{file_types, file_members}
use Rattle.jv_layout.proofs.collect.Collected.add_file.Given as goal

abbrev pub invariant-loop-decl : goal.invariant-loop-decl
invariant-loop-decl l = record {
  types : l.self.types.items ++ file_types l.file (length l.self.types.items) (map type_decl_tree (drop l.decl-index l.decls)) ≡ l.initial.self.types.items ++ file_types l.file (length l.initial.self.types.items) (map type_decl_tree l.decls);
  members : l.self.members.items ++ file_members (length l.self.types.items) (map type_decl_tree (drop l.decl-index l.decls)) ≡ l.initial.self.members.items ++ file_members (length l.initial.self.types.items) (map type_decl_tree l.decls);
}
