use Rattle.jv_tree.specs.DeclTree.{type_decl_tree}
use Rattle.jv_unit.specs.Kept.{folder_of}
use Rattle.jv_unit.proofs.HeadRules.{head_part}
use Rattle.jv_unit.proofs.head_rules.head_diags.Goals as goal

pub returns : goal.returns
returns c = head_part (folder_of c.args.w.now) c.args.t c.ty.result (type_decl_tree c.decl.result.now) c.ty.ensures c.decl.ensures c.args.header c.args.dependence c.in_ok-own.own c.joined.result c.in_ok-own.ensures c.joined.ensures
