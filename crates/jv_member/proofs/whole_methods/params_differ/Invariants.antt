use Rattle.std.proofs.Common.{◌≡◌, drop}
use Rattle.jv_member.specs.Overriding.{params_differ}
use Rattle.jv_member.proofs.WholeSteps.{differ_from}
use Rattle.jv_member.proofs.whole_methods.params_differ.Given as goal

abbrev pub invariant-loop-method : goal.invariant-loop-method
invariant-loop-method l = params_differ l.fn.methods ≡ differ_from l.first (drop l.method-index l.methods)
