use Rattle.std.proofs.Common.{[], map, take}
use Rattle.sg_state.specs.Opening.{edge_of}
use Rattle.sg_state.specs.View.{Gives}
use Rattle.sg_state.proofs.opened.add_edges.Given as goal

abbrev pub invariant-loop-from : goal.invariant-loop-from
invariant-loop-from g l = Gives l.initial.places.entries l.places.entries (map edge_of (take l.from-index l.list)) [] [] []
