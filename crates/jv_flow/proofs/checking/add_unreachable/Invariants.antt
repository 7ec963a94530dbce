use Rattle.std.proofs.Common.{◌≡◌, ◌++◌, map, take}
use Rattle.jv_flow.specs.FlowFaults.{unreachable_at}
use Rattle.jv_flow.proofs.checking.add_unreachable.Given as goal

abbrev pub invariant-loop-at : goal.invariant-loop-at
invariant-loop-at l = l.diags ≡ l.initial.diags ++ map (unreachable_at l.file) (take l.at-index l.places)
