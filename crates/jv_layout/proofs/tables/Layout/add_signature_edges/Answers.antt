use Rattle.std.proofs.Common.{map, arith}
use Rattle.sg_state.specs.Opening.{edge_of}
use Rattle.jv_layout.specs.Skeleton.{signature_edge}
use Rattle.jv_layout.proofs.Looping.{pushed}
use Rattle.jv_layout.proofs.tables.Layout.add_signature_edges.Goals as goal

pub loop-m-preserved : goal.loop-m-preserved
loop-m-preserved c = pushed edge_of (signature_edge c.args.self.now) c.loop-m.edges.items c.push.new.self.items (map edge_of c.args.edges.now.items) c.loop-m.m _ c.in_ok-push.ensures.items (grind arith) c.loop-m.invariant
