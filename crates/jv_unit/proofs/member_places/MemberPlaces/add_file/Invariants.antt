use Rattle.std.proofs.Common.{◌≡◌, ◌+◌, ◌++◌, map, drop}
use Rattle.jv_tree.specs.DeclTree.{type_decl_tree}
use Rattle.jv_layout.specs.Folder.{file_count}
use Rattle.jv_unit.specs.MemberPlaces.{file_places}
use Rattle.jv_unit.proofs.member_places.MemberPlaces.add_file.Given as goal

abbrev pub invariant-loop-decl : goal.invariant-loop-decl
invariant-loop-decl l = record {
  places : l.self.places.items ++ file_places l.self.types (map type_decl_tree (drop l.decl-index l.decls)) ≡ l.initial.self.places.items ++ file_places l.initial.self.types (map type_decl_tree l.decls);
  types : l.self.types + file_count (map type_decl_tree (drop l.decl-index l.decls)) ≡ l.initial.self.types + file_count (map type_decl_tree l.decls);
}
