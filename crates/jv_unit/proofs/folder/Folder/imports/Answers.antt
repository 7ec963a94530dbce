use Rattle.std.proofs.Common.{List, ap, map, ◌∙◌}
use Rattle.jv_tree.specs.declared.declaration.Import.{Import}
use Rattle.jv_tree.specs.DeclTree.{UnitTree, import_tree}
use Rattle.jv_unit.proofs.folder.Folder.imports.Goals as goal

pub returns : goal.returns
returns c = ap (λ (is : List Import). map import_tree is) c.as_slice.ensures.value ∙ ap (λ (u : UnitTree). u.imports) c.file.ensures
