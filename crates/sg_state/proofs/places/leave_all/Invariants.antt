use Rattle.std.proofs.Common.{take}
use Rattle.sg_state.specs.View.{LeavesAll}
use Rattle.sg_state.proofs.places.leave_all.Given as goal

abbrev pub invariant-loop-s : goal.invariant-loop-s
invariant-loop-s g l = LeavesAll l.initial.places.entries l.places.entries (take l.s-index l.list) l.unit
