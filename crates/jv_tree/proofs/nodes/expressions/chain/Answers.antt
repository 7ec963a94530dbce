use Rattle.std.proofs.Common.{ap, ◌∙◌}
use Rattle.jv_tree.specs.ExprTree.{expr, chain, expr_tree, link_trees}
use Rattle.jv_tree.proofs.Rows.{links_made}
use Rattle.jv_tree.proofs.nodes.expressions.chain.Goals as goal

pub returns : goal.returns
returns c =
    ap (λ t. expr c.args.at (chain (expr_tree c.in_ok-first.first.value) t)) (links_made c.args.others)
    ∙ ap (λ x. expr c.args.at (chain (expr_tree x) (link_trees c.args.others.items))) c.in_ok-first.ensures.ok
