use Rattle.std.proofs.Common.{◌≡◌, Some, drop}
use Rattle.jv_tree.specs.DeclTree.{type_decl_tree}
use Rattle.jv_unit.specs.Paths.{decl_along}
use Rattle.jv_unit.proofs.decl_paths.inner.Given as goal

abbrev pub invariant-loop-place : goal.invariant-loop-place
invariant-loop-place l = decl_along (Some (type_decl_tree l.decl)) (drop l.place-index l.path) ≡ decl_along (Some (type_decl_tree l.initial.decl)) l.path
