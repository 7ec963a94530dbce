use Rattle.std.proofs.Common.{map, arith}
use Rattle.sg_state.specs.Opening.{edge_of}
use Rattle.jv_layout.specs.Skeleton.{lang_edge}
use Rattle.jv_layout.proofs.Looping.{pushed}
use Rattle.jv_layout.proofs.tables.Layout.add_lang_edges.Goals as goal

pub loop-f-preserved : goal.loop-f-preserved
loop-f-preserved c = pushed edge_of (lang_edge c.args.self.now) c.loop-f.edges.items c.push.new.self.items (map edge_of c.args.edges.now.items) c.loop-f.f _ c.in_ok-push.ensures.items (grind arith) c.loop-f.invariant
