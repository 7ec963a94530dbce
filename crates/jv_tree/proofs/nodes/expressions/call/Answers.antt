use Rattle.std.proofs.Common.{ap}
use Rattle.jv_tree.specs.ExprTree.{expr, call, target_tree}
use Rattle.jv_tree.proofs.Rows.{exprs_made}
use Rattle.jv_tree.proofs.nodes.expressions.call.Goals as goal

pub returns : goal.returns
returns c = ap (λ t. expr c.args.at (call (target_tree c.args.target) c.args.name t)) (exprs_made c.args.arguments)
