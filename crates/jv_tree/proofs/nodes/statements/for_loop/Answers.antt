use Rattle.std.proofs.Common.{ap, ◌∙◌}
use Rattle.std.specs.Option.{option_map}
use Rattle.jv_tree.specs.ExprTree.{expr_tree, expr_trees}
use Rattle.jv_tree.specs.StmtTree.{stmt, for_loop, stmt_tree, stmt_trees}
use Rattle.jv_tree.proofs.Rows.{stmts_made}
use Rattle.jv_tree.proofs.nodes.statements.for_loop.Goals as goal

pub returns : goal.returns
returns c =
    ap (λ t. stmt c.args.at (for_loop t (option_map expr_tree c.args.condition) (expr_trees c.args.after.items) (stmt_tree c.in_ok-body.body.value))) (stmts_made c.args.first)
    ∙ ap (λ x. stmt c.args.at (for_loop (stmt_trees c.args.first.items) (option_map expr_tree c.args.condition) (expr_trees c.args.after.items) (stmt_tree x))) c.in_ok-body.ensures.ok
