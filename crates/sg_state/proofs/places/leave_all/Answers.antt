use Rattle.std.proofs.Common.{◌+◌, take}
use Rattle.sg_state.proofs.Ending.{leaves_none, leaves_more, taken_more}
use Rattle.sg_state.proofs.places.leave_all.Goals as goal

pub loop-s-init : goal.loop-s-init
loop-s-init g c = leaves_none c.args.places.now.entries c.args.unit c.requires.places

pub loop-s-preserved : goal.loop-s-preserved
loop-s-preserved g c =
    leaves_more c.args.places.now.entries c.loop-s.places.entries c.leave.new.self.entries (take c.loop-s.s-index c.args.list.now) (take (c.loop-s.s-index + 1) c.args.list.now) _ c.args.unit c.loop-s.invariant (taken_more c.args.list.now c.loop-s.s-index _ c.loop-s-test.true) c.leave.ensures
