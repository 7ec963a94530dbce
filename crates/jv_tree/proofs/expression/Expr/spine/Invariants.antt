use Rattle.std.proofs.Common.{◌≡◌, map, reverse}
use Rattle.jv_tree.specs.ExprTree.{expr_tree}
use Rattle.jv_tree.specs.Spine.{outward, step_tree}
use Rattle.jv_tree.proofs.expression.Expr.spine.Given as goal

abbrev pub invariant-loop-head : goal.invariant-loop-head
invariant-loop-head l = outward (expr_tree l.head) (reverse (map step_tree l.steps.items)) ≡ expr_tree l.self
