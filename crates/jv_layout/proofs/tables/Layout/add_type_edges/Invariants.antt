use Rattle.std.proofs.Common.{◌≡◌, ◌++◌, map, take}
use Rattle.sg_state.specs.Opening.{edge_of}
use Rattle.jv_layout.specs.Skeleton.{type_edge}
use Rattle.jv_layout.proofs.tables.Layout.add_type_edges.Given as goal

abbrev pub invariant-loop-t : goal.invariant-loop-t
invariant-loop-t l = map edge_of l.edges.items ≡ map edge_of l.initial.edges.items ++ map (type_edge l.self) (take l.t-index l.firsts)
