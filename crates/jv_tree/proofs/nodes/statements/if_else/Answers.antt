use Rattle.std.proofs.Common.{ap, sym, ◌∙◌}
use Rattle.jv_tree.specs.StmtTree.{stmt, if_else, otherwise, no_else, stmt_tree, branch_trees, optional_else}
use Rattle.jv_tree.proofs.Rows.{branches_made}
use Rattle.jv_tree.proofs.nodes.statements.if_else.Goals as goal

pub returns-in_ok-statement-in-Some : goal.returns-in_ok-statement-in-Some
returns-in_ok-statement-in-Some c =
    ap (λ t. stmt c.args.at (if_else t (otherwise (stmt_tree c.in_ok-statement-in-Some.statement.value)))) (branches_made c.args.branches)
    ∙ ap (λ x. stmt c.args.at (if_else (branch_trees c.args.branches.items) (otherwise (stmt_tree x)))) c.in_ok-statement-in-Some.ensures.ok
    ∙ ap (λ o. stmt c.args.at (if_else (branch_trees c.args.branches.items) (optional_else o))) (sym c.in-Some.is)

pub returns-in-None : goal.returns-in-None
returns-in-None c =
    ap (λ t. stmt c.args.at (if_else t no_else)) (branches_made c.args.branches)
    ∙ ap (λ o. stmt c.args.at (if_else (branch_trees c.args.branches.items) (optional_else o))) (sym c.in-None.is)
