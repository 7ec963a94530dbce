use Rattle.std.proofs.Common.{ap}
use Rattle.jv_tree.specs.StmtTree.{stmt, block}
use Rattle.jv_tree.proofs.Rows.{stmts_made}
use Rattle.jv_tree.proofs.nodes.statements.block.Goals as goal

pub returns : goal.returns
returns c = ap (λ t. stmt c.args.at (block t)) (stmts_made c.args.statements)
