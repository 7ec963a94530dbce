use Rattle.std.proofs.Common.{◌≡◌, length}
use Rattle.jv_names.specs.Inherited.{has_no_super}
use Rattle.jv_names.proofs.inheriting.has_no_super.Given as goal

abbrev pub invariant-loop-before : goal.invariant-loop-before
invariant-loop-before l = has_no_super l.path.steps ≡ has_no_super l.at.steps

abbrev pub decreases-loop-before : goal.decreases-loop-before
decreases-loop-before l = length l.at.steps
