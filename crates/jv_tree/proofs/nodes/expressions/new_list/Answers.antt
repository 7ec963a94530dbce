use Rattle.std.proofs.Common.{ap}
use Rattle.jv_tree.specs.TypeTree.{type_tree}
use Rattle.jv_tree.specs.ExprTree.{expr, new_list}
use Rattle.jv_tree.proofs.Rows.{inits_made}
use Rattle.jv_tree.proofs.nodes.expressions.new_list.Goals as goal

pub returns : goal.returns
returns c = ap (λ t. expr c.args.at (new_list (type_tree c.args.ty) t)) (inits_made c.args.elements)
