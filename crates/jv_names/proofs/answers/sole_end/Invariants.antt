use Rattle.std.proofs.Common.{◌≡◌, length}
use Rattle.jv_names.specs.Ends.{counted_ends, meaning_of}
use Rattle.jv_names.proofs.Ending.{meaning_from}
use Rattle.jv_names.proofs.answers.sole_end.Given as goal

abbrev pub invariant-loop-end : goal.invariant-loop-end
invariant-loop-end l = meaning_of (counted_ends l.l l.fn.counts l.paths) ≡ meaning_from l.first l.ends

abbrev pub decreases-loop-end : goal.decreases-loop-end
decreases-loop-end l = length l.ends
