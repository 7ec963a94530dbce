use Rattle.std.proofs.Common.{◌≡◌, drop}
use Rattle.std.specs.List.{list_any}
use Rattle.sg_base.specs.Scope.{is_scope}
use Rattle.jv_types.proofs.assigning.is_above.Given as goal

abbrev pub invariant-loop-above : goal.invariant-loop-above
invariant-loop-above l = list_any (is_scope l.s) l.fn.up ≡ list_any (is_scope l.s) (drop l.above-index l.up)
