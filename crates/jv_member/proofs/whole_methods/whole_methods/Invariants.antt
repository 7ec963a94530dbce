use Rattle.std.proofs.Common.{◌≡◌, ◌++◌}
use Rattle.jv_member.specs.Overriding.{whole_methods}
use Rattle.jv_member.proofs.whole_methods.whole_methods.Given as goal

abbrev pub invariant-loop-signature : goal.invariant-loop-signature
invariant-loop-signature l = l.found.items ++ whole_methods l.rest l.signature-iterator.rest.items ≡ whole_methods l.methods l.fn.signatures
