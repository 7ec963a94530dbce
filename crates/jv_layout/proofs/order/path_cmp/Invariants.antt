use Rattle.std.proofs.Common.{◌≡◌, length}
use Rattle.jv_layout.specs.Folder.{path_cmp, numbers_of}
use Rattle.jv_layout.proofs.order.path_cmp.Given as goal

abbrev pub invariant-loop-left : goal.invariant-loop-left
invariant-loop-left l = path_cmp l.names (numbers_of l.left) (numbers_of l.right) ≡ path_cmp l.names (numbers_of l.a) (numbers_of l.b)

abbrev pub decreases-loop-left : goal.decreases-loop-left
decreases-loop-left l = length l.left
