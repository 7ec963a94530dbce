use Rattle.std.proofs.Common.{◌≡◌, ◌<◌, ◌↔◌, List, ◌++◌, IsTrue, length}
use Rattle.sg_base.specs.declared.step.Step.{Step}
use Rattle.sg_base.specs.PathTree.{path_at}
use Rattle.sg_order.specs.Order.{precedes}
use Rattle.sg_order.specs.Path.{IsPathBefore}
use Rattle.sg_order.proofs.order.Order.place_before.Given as goal

abbrev pub invariant-loop-i : goal.invariant-loop-i
invariant-loop-i l =
    (l.i < length l.tree.paths) × (l.j < length l.tree.paths) × (length (path_at l.tree.paths l.i) ≡ length (path_at l.tree.paths l.j))
    × ((xs : List Step) × (ys : List Step) × (path_at l.tree.paths l.p ≡ path_at l.tree.paths l.i ++ xs) × (path_at l.tree.paths l.q ≡ path_at l.tree.paths l.j ++ ys) × (IsTrue l.before ↔ IsPathBefore (precedes l.self) xs ys))

abbrev pub decreases-loop-i : goal.decreases-loop-i
decreases-loop-i l = l.i
