use Rattle.std.proofs.Common.{◌≡◌, drop}
use Rattle.jv_member.specs.Overriding.{signature_among}
use Rattle.jv_member.proofs.whole_methods.signature_among.Given as goal

abbrev pub invariant-loop-other : goal.invariant-loop-other
invariant-loop-other l = signature_among l.method (drop l.other-index l.methods) ≡ signature_among l.method l.fn.methods
