use Rattle.std.proofs.Common.{◌≡◌, ◌++◌}
use Rattle.jv_member.specs.Declaration.{joined}
use Rattle.jv_member.proofs.diag_lists.DiagLists.joined.Given as goal

abbrev pub invariant-loop-diags : goal.invariant-loop-diags
invariant-loop-diags l = l.all ++ joined l.diags-iterator.rest.items ≡ joined l.fn.self
