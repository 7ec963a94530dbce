use Rattle.std.proofs.Common.{◌≡◌, length}
use Rattle.jv_names.specs.Ends.{begins_with}
use Rattle.jv_names.proofs.Paths.{first_from}
use Rattle.jv_names.proofs.counting.begins_with.Given as goal

abbrev pub invariant-loop-before : goal.invariant-loop-before
invariant-loop-before l = begins_with l.label l.path.steps ≡ first_from l.label l.found l.at.steps

abbrev pub decreases-loop-before : goal.decreases-loop-before
decreases-loop-before l = length l.at.steps
