use Rattle.std.proofs.Common.{◌≡◌, ◌++◌, drop, map}
use Rattle.jv_tree.specs.DeclTree.{import_tree, tree_of}
use Rattle.jv_layout.specs.Folder.{statics_in}
use Rattle.jv_layout.proofs.build.static_imports.Given as goal

abbrev pub invariant-loop-file : goal.invariant-loop-file
invariant-loop-file l = map (λ x. map import_tree x.items) l.statics.items ++ map statics_in (map tree_of (drop l.file-index l.files)) ≡ map statics_in (map tree_of l.files)
