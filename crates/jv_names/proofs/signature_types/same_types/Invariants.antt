use Rattle.std.proofs.Common.{◌≡◌, length}
use Rattle.jv_names.specs.Read.{same_types}
use Rattle.jv_names.proofs.signature_types.same_types.Given as goal

abbrev pub invariant-loop-ours : goal.invariant-loop-ours
invariant-loop-ours l = same_types l.ours l.theirs ≡ same_types l.fn.left l.fn.right

abbrev pub decreases-loop-ours : goal.decreases-loop-ours
decreases-loop-ours l = length l.ours
