use Rattle.std.proofs.Common.{◌≡◌, map, drop}
use Rattle.std.specs.Prelude.{◌==◌}
use Rattle.std.specs.HashMap.{get_by}
use Rattle.jv_tree.specs.DeclTree.{import_tree, type_decl_tree}
use Rattle.jv_header.specs.Clashes.{AreBrought}
use Rattle.jv_header.specs.Imports.{imports_from, no_imports}
use Rattle.jv_header.proofs.imports.imports_by.Given as goal

-- what stands so far can be looked up, and what the rest of the imports gives behind what is given so far, all of them give
abbrev pub invariant-loop-i : goal.invariant-loop-i
invariant-loop-i l = record {
  brought : AreBrought (λ n. get_by (λ k. n.0 == k.0) l.brought) l.w.singles;
  given : imports_from l.l l.names l.file (map type_decl_tree l.unit.types.items) no_imports (map import_tree l.unit.imports.items) l.found
      ≡ imports_from l.l l.names l.file (map type_decl_tree l.unit.types.items) l.w (map import_tree (drop l.i l.unit.imports.items)) (drop l.i l.found);
}
