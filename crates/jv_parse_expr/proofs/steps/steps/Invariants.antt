use Rattle.std.proofs.Common.{◌≡◌, length}
use Rattle.jv_tree.specs.ExprTree.{expr_tree}
use Rattle.jv_grammar.specs.ExprReader.{steps_of}
use Rattle.jv_parse_expr.proofs.steps.steps.Given as goal

abbrev pub invariant-loop-place : goal.invariant-loop-place
invariant-loop-place l = steps_of l.outer (expr_tree l.inner) l.rest ≡ steps_of l.fn.form (expr_tree l.fn.first) l.terminals

abbrev pub decreases-loop-place : goal.decreases-loop-place
decreases-loop-place l = length l.rest
