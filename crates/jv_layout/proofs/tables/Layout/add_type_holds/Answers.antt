use Rattle.std.proofs.Common.{map, arith}
use Rattle.sg_state.specs.Opening.{row_hold_of}
use Rattle.jv_layout.specs.Skeleton.{type_hold}
use Rattle.jv_layout.proofs.Looping.{pushed}
use Rattle.jv_layout.proofs.tables.Layout.add_type_holds.Goals as goal

pub loop-t-preserved : goal.loop-t-preserved
loop-t-preserved c = pushed row_hold_of (type_hold c.args.self.now) c.loop-t.holds.items c.push.new.self.items (map row_hold_of c.args.holds.now.items) c.loop-t.t _ c.in_ok-push.ensures.items (grind arith) c.loop-t.invariant
