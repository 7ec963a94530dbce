use Rattle.std.proofs.Common.{map, drop}
use Rattle.sg_state.specs.Gains.{EdgesLeft}
use Rattle.sg_state.proofs.Views.{an_edge}
use Rattle.sg_state.proofs.copied.add_row.Given as goal

abbrev pub invariant-loop-t : goal.invariant-loop-t
invariant-loop-t g l = EdgesLeft l.initial.graph l.graph (map (an_edge l.s l.label) (drop l.t-index l.targets)) (map (an_edge l.s l.label) l.targets)
