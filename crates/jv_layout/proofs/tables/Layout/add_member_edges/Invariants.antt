use Rattle.std.proofs.Common.{◌≡◌, ◌++◌, map, take}
use Rattle.sg_state.specs.Opening.{edge_of}
use Rattle.jv_layout.specs.Skeleton.{member_edge}
use Rattle.jv_layout.proofs.tables.Layout.add_member_edges.Given as goal

abbrev pub invariant-loop-m : goal.invariant-loop-m
invariant-loop-m l = map edge_of l.edges.items ≡ map edge_of l.initial.edges.items ++ map (member_edge l.self) (take l.m-index l.firsts)
