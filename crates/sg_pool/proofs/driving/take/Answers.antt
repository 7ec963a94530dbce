use Rattle.sg_unit.specs.declared.op.Op.TheVariants.{Take}
use Rattle.std.proofs.Common.{Some, refl}
use Rattle.sg_pool.specs.declared.doing.Doing.TheVariants.{Gives}
use Rattle.sg_pool.proofs.Drives.{may_take, driven_take, driven_there, still_met}
use Rattle.sg_pool.proofs.driving.take.Goals as goal

pub apply-requires-clause-may : goal.apply-requires-clause-may
apply-requires-clause-may g c = may_take g.U.Inst.Instance.wants g.U.Inst.Instance.same_datum g.U.Unit.opening g.U.Unit.kinds g.U.Unit.owes_edge g.U.Unit.owes_datum g.U.Unit.may_ask g.U.Unit.comes_to g.U.Unit.number g.U.Unit.fixed g.U.Unit.stands (g.K.Place.Seat.opening c.args.seat.now) (g.K.Place.Seat.kinds c.args.seat.now) (g.K.Place.Seat.mine c.args.seat.now) (g.K.Place.Seat.number c.args.seat.now) c.args.unit.now c.args.last.now c.requires.driven

pub returns-clause-driven : goal.returns-clause-driven
returns-clause-driven g c =
    driven_there g.U.Inst.Instance.wants g.U.Inst.Instance.same_datum g.U.Unit.opening g.U.Unit.kinds g.U.Unit.owes_edge g.U.Unit.owes_datum g.U.Unit.may_ask g.U.Unit.comes_to g.U.Unit.number g.U.Unit.fixed g.U.Unit.stands (g.K.Place.Seat.opening c.args.seat.now) (g.K.Place.Seat.opening c.apply.new.seat) (g.K.Place.Seat.kinds c.args.seat.now) (g.K.Place.Seat.kinds c.apply.new.seat) _ (g.K.Place.Seat.mine c.apply.new.seat) (g.K.Place.Seat.number c.args.seat.now) (g.K.Place.Seat.number c.apply.new.seat) c.args.unit.now (Some c.in_ok-reply.reply) Gives (c.in_ok-reply.ensures.run.0) (c.in_ok-reply.ensures.run.1) c.in_ok-reply.ensures.added c.in_ok-reply.ensures.seat.1
    (driven_take g.U.Inst.Instance.wants g.U.Inst.Instance.same_datum g.U.Unit.opening g.U.Unit.kinds g.U.Unit.owes_edge g.U.Unit.owes_datum g.U.Unit.may_ask g.U.Unit.comes_to g.U.Unit.number g.U.Unit.fixed g.U.Unit.stands (g.K.Place.Seat.opening c.args.seat.now) (g.K.Place.Seat.kinds c.args.seat.now) (g.K.Place.Seat.mine c.args.seat.now) (g.K.Place.Seat.number c.args.seat.now) c.args.unit.now c.args.last.now c.requires.driven c.in_ok-reply.reply c.in_ok-reply.ensures.reply)

pub returns-clause-met : goal.returns-clause-met
returns-clause-met g c = still_met (g.K.Place.Seat.mine c.args.seat.now) (g.K.Place.Seat.mine c.apply.new.seat) _ c.in_ok-reply.ensures.added

pub returns-clause-added : goal.returns-clause-added
returns-clause-added g c = (record { unit = g.K.Place.Seat.number c.args.seat.now; op = Take; reply = c.in_ok-reply.reply }, c.in_ok-reply.ensures.added, refl, c.told_by-after.ensures)
