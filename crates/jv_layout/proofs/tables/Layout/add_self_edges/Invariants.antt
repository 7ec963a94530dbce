use Rattle.std.proofs.Common.{◌≡◌, ◌++◌, map, take}
use Rattle.std.specs.List.{filter}
use Rattle.sg_state.specs.Opening.{edge_of}
use Rattle.jv_layout.specs.Skeleton.{self_edge, is_top}
use Rattle.jv_layout.proofs.tables.Layout.add_self_edges.Given as goal

abbrev pub invariant-loop-t : goal.invariant-loop-t
invariant-loop-t l = map edge_of l.edges.items ≡ map edge_of l.initial.edges.items ++ map (self_edge l.self) (filter (is_top l.self) (take l.t-index l.firsts))
