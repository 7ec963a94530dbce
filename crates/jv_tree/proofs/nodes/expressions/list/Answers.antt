use Rattle.std.proofs.Common.{ap}
use Rattle.jv_tree.specs.ExprTree.{list}
use Rattle.jv_tree.proofs.Rows.{inits_made}
use Rattle.jv_tree.proofs.nodes.expressions.list.Goals as goal

pub returns : goal.returns
returns c = ap (list c.args.at) (inits_made c.args.elements)
