use Rattle.std.proofs.Common.{◌≡◌, ◌++◌, map, take}
use Rattle.jv_tree.specs.StmtTree.{var_trees}
use Rattle.jv_layout.specs.Folder.{field_row}
use Rattle.jv_layout.proofs.collect.Collected.add_fields.Given as goal

abbrev pub invariant-loop-variable : goal.invariant-loop-variable
invariant-loop-variable l = (l.self.types ≡ l.initial.self.types) × (l.self.members.items ≡ l.initial.self.members.items ++ map (field_row l.owner l.modifiers) (var_trees (take l.variable-index l.variables)))
