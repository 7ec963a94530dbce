use Rattle.std.proofs.Common.{◌≡◌, ◌++◌, drop, map}
use Rattle.std.specs.List.{filter}
use Rattle.jv_tree.specs.DeclTree.{import_tree}
use Rattle.jv_layout.proofs.build.static_ones.Given as goal

abbrev pub invariant-loop-import : goal.invariant-loop-import
invariant-loop-import l = map import_tree l.statics.items ++ filter (λ i. i.is_static) (map import_tree (drop l.import-index l.imports)) ≡ filter (λ i. i.is_static) (map import_tree l.imports)
