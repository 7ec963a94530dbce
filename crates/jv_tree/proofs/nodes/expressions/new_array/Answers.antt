use Rattle.std.proofs.Common.{ap}
use Rattle.jv_tree.specs.TypeTree.{type_tree}
use Rattle.jv_tree.specs.ExprTree.{expr, new_array}
use Rattle.jv_tree.proofs.Rows.{exprs_made}
use Rattle.jv_tree.proofs.nodes.expressions.new_array.Goals as goal

pub returns : goal.returns
returns c = ap (λ t. expr c.args.at (new_array (type_tree c.args.ty) t)) (exprs_made c.args.sizes)
