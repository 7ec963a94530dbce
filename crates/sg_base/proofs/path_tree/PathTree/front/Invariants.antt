use Rattle.std.proofs.Common.{◌≡◌, ◌≤◌, List, ◌++◌, length}
use Rattle.sg_base.specs.declared.step.Step.{Step}
use Rattle.sg_base.specs.PathTree.{path_at, BeginsWith}
use Rattle.sg_base.proofs.path_tree.PathTree.front.Given as goal

abbrev pub invariant-loop-at : goal.invariant-loop-at
invariant-loop-at l =
    (l.at ≤ l.place) × (l.len ≤ length (path_at l.self.paths l.at))
    × ((rest : List Step) × (path_at l.self.paths l.place ≡ path_at l.self.paths l.at ++ rest) × BeginsWith rest l.next)

abbrev pub decreases-loop-at : goal.decreases-loop-at
decreases-loop-at l = l.at
