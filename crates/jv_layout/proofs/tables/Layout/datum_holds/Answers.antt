use Rattle.std.proofs.Common.{arith}
use Rattle.sg_state.specs.Opening.{held_datum_of}
use Rattle.jv_layout.specs.Skeleton.{signature_hold}
use Rattle.jv_layout.proofs.Looping.{pushed_first}
use Rattle.jv_layout.proofs.tables.Layout.datum_holds.Goals as goal

pub loop-m-preserved : goal.loop-m-preserved
loop-m-preserved c = pushed_first held_datum_of (signature_hold c.args.self.now) c.loop-m.holds.items c.push.new.self.items c.loop-m.m _ c.in_ok-push.ensures.items (grind arith) c.loop-m.invariant
