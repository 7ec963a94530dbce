use Rattle.std.proofs.Common.{arith}
use Rattle.sg_state.specs.Opening.{row_hold_of}
use Rattle.jv_layout.specs.Skeleton.{file_hold}
use Rattle.jv_layout.proofs.Looping.{pushed_two}
use Rattle.jv_layout.proofs.tables.Layout.row_holds.Goals as goal

pub loop-f-preserved : goal.loop-f-preserved
loop-f-preserved c = pushed_two row_hold_of (file_hold c.args.self.now) c.loop-f.holds.items c.push.new.self.items c.push-in-loop-f.new.self.items c.loop-f.f _ _ c.in_ok-push.ensures.items c.in_ok-push-2.ensures.items (grind arith) c.loop-f.invariant
