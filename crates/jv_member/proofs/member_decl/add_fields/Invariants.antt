use Rattle.std.proofs.Common.{◌≡◌, ◌++◌, map, take}
use Rattle.jv_tree.specs.StmtTree.{var_trees}
use Rattle.jv_tree.specs.TypeTree.{type_tree}
use Rattle.jv_member.specs.MemberDecls.{own_of}
use Rattle.jv_member.specs.Own.{own_field}
use Rattle.jv_member.proofs.member_decl.add_fields.Given as goal

abbrev pub invariant-loop-variable : goal.invariant-loop-variable
invariant-loop-variable l = map own_of l.own.items ≡ map own_of l.initial.own.items ++ map (own_field l.mods.words.items (type_tree l.ty)) (var_trees (take l.variable-index l.variables))
