use Rattle.std.proofs.Common.{ap}
use Rattle.jv_tree.specs.TypeTree.{ids_of}
use Rattle.jv_tree.specs.ExprTree.{expr, new}
use Rattle.jv_tree.proofs.Rows.{exprs_made}
use Rattle.jv_tree.proofs.nodes.expressions.new_object.Goals as goal

pub returns : goal.returns
returns c = ap (λ t. expr c.args.at (new (ids_of c.args.class) t)) (exprs_made c.args.arguments)
