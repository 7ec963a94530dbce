use Rattle.std.proofs.Common.{◌≡◌, drop}
use Rattle.jv_member.specs.Overriding.{first_concrete}
use Rattle.jv_member.proofs.meeting.first_concrete.Given as goal

abbrev pub invariant-loop-method : goal.invariant-loop-method
invariant-loop-method l = first_concrete l.l l.methods ≡ first_concrete l.l (drop l.method-index l.methods)
