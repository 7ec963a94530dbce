use Rattle.std.proofs.Common.{take}
use Rattle.sg_base.specs.declared.scope.Scope.{Scope}
use Rattle.sg_expr.specs.Tree.{ExprOf}
use Rattle.sg_engine.specs.Need.{need_of}
use Rattle.sg_engine.specs.Tree.{paths_of, item_of, AreNodes}
use Rattle.sg_engine.proofs.Needing.{Waits}
use Rattle.sg_engine.proofs.needs.all_needs.Given as goal

abbrev pub invariant-loop-w : goal.invariant-loop-w
invariant-loop-w l =
    (e : ExprOf) (start : Scope) → AreNodes e start l.nodes.items → Waits (λ w. need_of start (item_of (paths_of l.nodes.items) w)) (take l.w-index l.blocked) l.all.items
