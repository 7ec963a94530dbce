use Rattle.std.proofs.Common.{◌≡◌, drop}
use Rattle.std.specs.List.{list_any}
use Rattle.sg_base.specs.Scope.{is_scope}
use Rattle.jv_expr.proofs.fields.is_among.Given as goal

abbrev pub invariant-loop-other : goal.invariant-loop-other
invariant-loop-other l = list_any (is_scope l.scope) l.scopes ≡ list_any (is_scope l.scope) (drop l.other-index l.scopes)
