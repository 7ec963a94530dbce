use Rattle.std.proofs.Common.{◌≡◌, ◌++◌, map}
use Rattle.sg_state.specs.Opening.{edge_of}
use Rattle.jv_layout.specs.Skeleton.{below, package_edge}
use Rattle.jv_layout.proofs.tables.Layout.add_package_edges.Given as goal

abbrev pub invariant-loop-p : goal.invariant-loop-p
invariant-loop-p l = map edge_of l.edges.items ≡ map edge_of l.initial.edges.items ++ map (package_edge l.self) (below l.p)
