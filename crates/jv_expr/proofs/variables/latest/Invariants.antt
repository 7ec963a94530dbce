use Rattle.std.proofs.Common.{◌≡◌, None, drop}
use Rattle.jv_expr.specs.Variables.{latest}
use Rattle.jv_expr.proofs.variables.latest.Given as goal

abbrev pub invariant-loop-local : goal.invariant-loop-local
invariant-loop-local l = latest l.locals l.name None ≡ latest (drop l.local-index l.locals) l.name l.found
