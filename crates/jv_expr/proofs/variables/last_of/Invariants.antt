use Rattle.std.proofs.Common.{◌≡◌, drop}
use Rattle.jv_expr.specs.Variables.{last_of}
use Rattle.jv_expr.proofs.variables.last_of.Given as goal

abbrev pub invariant-loop-i : goal.invariant-loop-i
invariant-loop-i l = last_of l.fn.first l.rest ≡ last_of l.last (drop l.i-index l.rest)
