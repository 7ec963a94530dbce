use Rattle.std.proofs.Common.{arith}
use Rattle.sg_state.specs.Rows.{rows_of}
use Rattle.sg_state.proofs.Leaving.{left_none, left_more, left_all}
use Rattle.sg_state.proofs.place.Place.leave.Goals as goal

pub loop-label-init : goal.loop-label-init
loop-label-init g c = left_none c.args.self.now c.args.unit c.requires.place

pub loop-label-preserved : goal.loop-label-preserved
loop-label-preserved g c = left_more _ _ _ c.loop-label.label c.args.unit c.loop-label.invariant c.remove_holder.ensures.gone c.remove_holder.ensures.place

pub returns-clause-gone : goal.returns-clause-gone
returns-clause-gone g c =
    left_all c.args.self.now c.loop-label.self (rows_of c.self.inside.rows) c.self.inside.slot c.give_up.new.self c.loop-label.label c.args.unit c.requires.place (omega (arith, c.loop-label-test.false, c.loop-label.auto.label-end)) c.loop-label.invariant c.self.view_is c.give_up.ensures
