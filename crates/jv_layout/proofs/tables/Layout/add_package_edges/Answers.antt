use Rattle.std.proofs.Common.{map, arith}
use Rattle.sg_state.specs.Opening.{edge_of}
use Rattle.jv_layout.specs.Skeleton.{package_edge}
use Rattle.jv_layout.proofs.Looping.{pushed}
use Rattle.jv_layout.proofs.tables.Layout.add_package_edges.Goals as goal

pub loop-p-preserved : goal.loop-p-preserved
loop-p-preserved c = pushed edge_of (package_edge c.args.self.now) c.loop-p.edges.items c.push.new.self.items (map edge_of c.args.edges.now.items) c.loop-p.p _ c.in_ok-push.ensures.items (grind arith) c.loop-p.invariant
