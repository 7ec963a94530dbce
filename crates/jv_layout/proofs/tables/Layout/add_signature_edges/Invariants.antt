use Rattle.std.proofs.Common.{◌≡◌, ◌++◌, map}
use Rattle.sg_state.specs.Opening.{edge_of}
use Rattle.jv_layout.specs.Skeleton.{below, signature_edge}
use Rattle.jv_layout.proofs.tables.Layout.add_signature_edges.Given as goal

abbrev pub invariant-loop-m : goal.invariant-loop-m
invariant-loop-m l = map edge_of l.edges.items ≡ map edge_of l.initial.edges.items ++ map (signature_edge l.self) (below l.m)
