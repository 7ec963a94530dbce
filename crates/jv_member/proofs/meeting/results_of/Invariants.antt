use Rattle.std.proofs.Common.{◌≡◌, ◌++◌, drop}
use Rattle.jv_member.specs.Overriding.{results_of}
use Rattle.jv_member.proofs.meeting.results_of.Given as goal

abbrev pub invariant-loop-method : goal.invariant-loop-method
invariant-loop-method l = l.results.items ++ results_of (drop l.method-index l.methods) ≡ results_of l.fn.methods
