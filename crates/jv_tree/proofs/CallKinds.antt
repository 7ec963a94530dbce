-- What a call on an expression is.
use Rattle.std.proofs.Common.{◌≡◌, ap, ◌∙◌, Global}
use Rattle.std.specs.Prelude.{Vec, Box}
use Rattle.jv_tree.specs.declared.name.Ident.{Ident}
use Rattle.jv_tree.specs.declared.expression.Expr.{Expr}
use Rattle.jv_tree.specs.declared.expression.ExprKind.{ExprKind, Call}
use Rattle.jv_tree.specs.declared.expression.Target.{Target, On}
use Rattle.jv_tree.specs.ExprTree.{call, on, expr_tree, expr_trees, kind_tree, target_tree}
use Rattle.jv_tree.proofs.Rows.{exprs_made}

pub call_on : (k : ExprKind) (t : Target) (b : Box Expr Global) (n : Ident) (v : Vec Expr Global) → k ≡ Call t n v → t ≡ On b
    → kind_tree k ≡ call (on (expr_tree b.value)) n (expr_trees v.items)
call_on k t b n v e f = ap kind_tree e ∙ ap (λ u. kind_tree (Call u n v)) f ∙ ap (call (on (expr_tree b.value)) n) (exprs_made v)
