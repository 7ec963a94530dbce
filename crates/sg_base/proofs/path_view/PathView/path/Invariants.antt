use Rattle.std.proofs.Common.{◌≡◌, ◌++◌, length, reverse}
use Rattle.sg_base.proofs.path_view.PathView.path.Given as goal

abbrev pub invariant-loop-before : goal.invariant-loop-before
invariant-loop-before l = (l.at.start ≡ l.self.start) × (l.self.steps ≡ l.at.steps ++ reverse l.steps.items)

abbrev pub decreases-loop-before : goal.decreases-loop-before
decreases-loop-before l = length l.at.steps
