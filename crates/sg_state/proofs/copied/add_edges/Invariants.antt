use Rattle.std.proofs.Common.{drop}
use Rattle.std.specs.List.{flat_map}
use Rattle.sg_state.specs.Gains.{EdgesLeft}
use Rattle.sg_state.specs.View.{edges_at}
use Rattle.sg_state.proofs.copied.add_edges.Given as goal

abbrev pub invariant-loop-s : goal.invariant-loop-s
invariant-loop-s g l = EdgesLeft l.initial.graph l.graph (flat_map edges_at (drop l.s-index l.places)) (flat_map edges_at l.places)
