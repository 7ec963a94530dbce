use Rattle.std.proofs.Common.{ap, sym, ◌∙◌, arith, ◌<◌, vec_len}
use Rattle.jv_tree.specs.ExprTree.{expr_tree}
use Rattle.jv_parse_expr.proofs.LinkTurns.{pos_of, other_form, chained_some}
use Rattle.jv_parse_expr.proofs.expressions.with_links.Goals as goal

pub returns : goal.returns
returns c =
    let z : 0 < vec_len c.args.links = pos_of _ c.if-is_empty.ensures in
    ap other_form c.in_ok-chain.ensures
    ∙ sym (chained_some (c.args.form, expr_tree c.args.first) c.args.links.items (omega (arith, c.args.links.ok.0)))
