use Rattle.std.proofs.Common.{◌≡◌, length}
use Rattle.std.specs.Cmp.Lexicographic.{slice_cmp}
use Rattle.std.specs.Ordering.{nat_cmp}
use Rattle.jv_layout.specs.Folder.{with_dot}
use Rattle.jv_layout.proofs.order.part_cmp.Given as goal

abbrev pub invariant-loop-a : goal.invariant-loop-a
invariant-loop-a l = slice_cmp nat_cmp (with_dot l.left l.left_dot) (with_dot l.right l.right_dot) ≡ slice_cmp nat_cmp (with_dot l.x l.x_dot) (with_dot l.y l.y_dot)

abbrev pub decreases-loop-a : goal.decreases-loop-a
decreases-loop-a l = length (with_dot l.left l.left_dot)
