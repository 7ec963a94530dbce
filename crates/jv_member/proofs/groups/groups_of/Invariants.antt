use Rattle.std.proofs.Common.{◌≡◌, fold, drop}
use Rattle.jv_member.specs.Overriding.{groups_of, with_method}
use Rattle.jv_member.proofs.groups.groups_of.Given as goal

abbrev pub invariant-loop-method : goal.invariant-loop-method
invariant-loop-method l = groups_of l.l l.fn.methods ≡ fold (with_method l.l) l.groups (drop l.method-index l.methods)
