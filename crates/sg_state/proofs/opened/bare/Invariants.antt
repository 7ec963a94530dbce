use Rattle.std.proofs.Common.{take}
use Rattle.sg_state.specs.View.{AreBare}
use Rattle.sg_state.proofs.opened.bare.Given as goal

abbrev pub invariant-loop-s : goal.invariant-loop-s
invariant-loop-s g l = AreBare l.places.entries (take l.s-index l.list)
