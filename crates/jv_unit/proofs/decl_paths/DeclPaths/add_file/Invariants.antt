use Rattle.std.proofs.Common.{◌≡◌, [], ◌∷◌, ◌++◌, map, drop}
use Rattle.jv_tree.specs.DeclTree.{type_decl_tree}
use Rattle.jv_unit.specs.Paths.{file_paths}
use Rattle.jv_unit.proofs.decl_paths.DeclPaths.add_file.Given as goal

abbrev pub invariant-loop-place : goal.invariant-loop-place
invariant-loop-place l = record {
  paths : l.self ++ file_paths l.file l.place (map type_decl_tree (drop l.place l.decls)) ≡ l.initial.self ++ file_paths l.file 0 (map type_decl_tree l.decls);
  path : l.path.items ≡ l.file ∷ [];
}
