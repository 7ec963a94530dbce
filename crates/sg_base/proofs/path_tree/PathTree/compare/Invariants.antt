use Rattle.std.proofs.Common.{◌≡◌, ◌<◌, length}
use Rattle.std.specs.Cmp.Lexicographic.{slice_cmp}
use Rattle.std.specs.Ordering.{ordering_then}
use Rattle.sg_base.specs.Path.{step_cmp}
use Rattle.sg_base.specs.PathTree.{path_at}
use Rattle.sg_base.proofs.path_tree.PathTree.compare.Given as goal

abbrev pub invariant-loop-i : goal.invariant-loop-i
invariant-loop-i l =
    (l.i < length l.self.paths) × (l.j < length l.self.paths) × (length (path_at l.self.paths l.i) ≡ length (path_at l.self.paths l.j))
    × (slice_cmp step_cmp (path_at l.self.paths l.p) (path_at l.self.paths l.q) ≡ ordering_then (slice_cmp step_cmp (path_at l.self.paths l.i) (path_at l.self.paths l.j)) l.rest)

abbrev pub decreases-loop-i : goal.decreases-loop-i
decreases-loop-i l = l.i
