use Rattle.std.proofs.Common.{Some, None, cond, sym, ◌∙◌, subst, refl}
use Rattle.sg_unit.specs.Served.{waits_next}
use Rattle.sg_pool.specs.declared.doing.Doing.TheVariants.{Gives}
use Rattle.sg_pool.specs.Driving.{doing_after, IsDriven}
use Rattle.sg_pool.proofs.Drives.{can_hand, may_give, driven_give, driven_there, met_stuck, still_met}
use Rattle.sg_pool.proofs.driving.give.Goals as goal

pub next-requires : goal.next-requires
next-requires g c = can_hand g.U.Inst.Instance.wants g.U.Inst.Instance.same_datum g.U.Unit.opening g.U.Unit.kinds g.U.Unit.owes_edge g.U.Unit.owes_datum g.U.Unit.may_ask g.U.Unit.comes_to g.U.Unit.number g.U.Unit.fixed g.U.Unit.stands (g.K.Place.Seat.opening c.args.seat.now) (g.K.Place.Seat.kinds c.args.seat.now) (g.K.Place.Seat.mine c.args.seat.now) (g.K.Place.Seat.number c.args.seat.now) c.args.unit.now c.take-handed.result (subst (λ y. IsDriven g.U.Inst.Instance.wants g.U.Inst.Instance.same_datum g.U.Unit.opening g.U.Unit.kinds g.U.Unit.owes_edge g.U.Unit.owes_datum g.U.Unit.may_ask g.U.Unit.comes_to g.U.Unit.number g.U.Unit.fixed g.U.Unit.stands (g.K.Place.Seat.opening c.args.seat.now) (g.K.Place.Seat.kinds c.args.seat.now) (g.K.Place.Seat.mine c.args.seat.now) (g.K.Place.Seat.number c.args.seat.now) c.args.unit.now y Gives) (sym c.take-handed.ensures.value) c.requires.driven)

pub apply-requires-clause-may : goal.apply-requires-clause-may
apply-requires-clause-may g c = may_give g.U.Inst.Instance.wants g.U.Inst.Instance.same_datum g.U.Unit.opening g.U.Unit.kinds g.U.Unit.owes_edge g.U.Unit.owes_datum g.U.Unit.may_ask g.U.Unit.comes_to g.U.Unit.number g.U.Unit.fixed g.U.Unit.stands (g.K.Place.Seat.opening c.args.seat.now) (g.K.Place.Seat.kinds c.args.seat.now) (g.K.Place.Seat.mine c.args.seat.now) (g.K.Place.Seat.number c.args.seat.now) c.args.unit.now c.take-handed.result (subst (λ y. IsDriven g.U.Inst.Instance.wants g.U.Inst.Instance.same_datum g.U.Unit.opening g.U.Unit.kinds g.U.Unit.owes_edge g.U.Unit.owes_datum g.U.Unit.may_ask g.U.Unit.comes_to g.U.Unit.number g.U.Unit.fixed g.U.Unit.stands (g.K.Place.Seat.opening c.args.seat.now) (g.K.Place.Seat.kinds c.args.seat.now) (g.K.Place.Seat.mine c.args.seat.now) (g.K.Place.Seat.number c.args.seat.now) c.args.unit.now y Gives) (sym c.take-handed.ensures.value) c.requires.driven) c.next.new.self c.in_ok-op.op c.in_ok-op.ensures.gives

pub returns-then-not-asks-clause-driven : goal.returns-then-not-asks-clause-driven
returns-then-not-asks-clause-driven g c =
    subst (λ d. IsDriven g.U.Inst.Instance.wants g.U.Inst.Instance.same_datum g.U.Unit.opening g.U.Unit.kinds g.U.Unit.owes_edge g.U.Unit.owes_datum g.U.Unit.may_ask g.U.Unit.comes_to g.U.Unit.number g.U.Unit.fixed g.U.Unit.stands (g.K.Place.Seat.opening c.apply.new.seat) (g.K.Place.Seat.kinds c.apply.new.seat) (g.K.Place.Seat.mine c.apply.new.seat) (g.K.Place.Seat.number c.apply.new.seat) c.next.new.self (Some c.in_ok-reply.reply) d) (sym c.next_of-doing.ensures)
    (subst (λ b. IsDriven g.U.Inst.Instance.wants g.U.Inst.Instance.same_datum g.U.Unit.opening g.U.Unit.kinds g.U.Unit.owes_edge g.U.Unit.owes_datum g.U.Unit.may_ask g.U.Unit.comes_to g.U.Unit.number g.U.Unit.fixed g.U.Unit.stands (g.K.Place.Seat.opening c.apply.new.seat) (g.K.Place.Seat.kinds c.apply.new.seat) (g.K.Place.Seat.mine c.apply.new.seat) (g.K.Place.Seat.number c.apply.new.seat) c.next.new.self (cond b None (Some c.in_ok-reply.reply)) (doing_after c.in_ok-op.op)) (sym c.is_ask-asks.ensures ∙ c.if-not-asks.true)
    (driven_there g.U.Inst.Instance.wants g.U.Inst.Instance.same_datum g.U.Unit.opening g.U.Unit.kinds g.U.Unit.owes_edge g.U.Unit.owes_datum g.U.Unit.may_ask g.U.Unit.comes_to g.U.Unit.number g.U.Unit.fixed g.U.Unit.stands (g.K.Place.Seat.opening c.args.seat.now) (g.K.Place.Seat.opening c.apply.new.seat) (g.K.Place.Seat.kinds c.args.seat.now) (g.K.Place.Seat.kinds c.apply.new.seat) _ (g.K.Place.Seat.mine c.apply.new.seat) (g.K.Place.Seat.number c.args.seat.now) (g.K.Place.Seat.number c.apply.new.seat) c.next.new.self (waits_next c.in_ok-op.op c.in_ok-reply.reply) (doing_after c.in_ok-op.op) (c.in_ok-reply.ensures.run.0) (c.in_ok-reply.ensures.run.1) c.in_ok-reply.ensures.added c.in_ok-reply.ensures.seat.1
    (driven_give g.U.Inst.Instance.wants g.U.Inst.Instance.same_datum g.U.Unit.opening g.U.Unit.kinds g.U.Unit.owes_edge g.U.Unit.owes_datum g.U.Unit.may_ask g.U.Unit.comes_to g.U.Unit.number g.U.Unit.fixed g.U.Unit.stands (g.K.Place.Seat.opening c.args.seat.now) (g.K.Place.Seat.kinds c.args.seat.now) (g.K.Place.Seat.mine c.args.seat.now) (g.K.Place.Seat.number c.args.seat.now) c.args.unit.now c.take-handed.result (subst (λ y. IsDriven g.U.Inst.Instance.wants g.U.Inst.Instance.same_datum g.U.Unit.opening g.U.Unit.kinds g.U.Unit.owes_edge g.U.Unit.owes_datum g.U.Unit.may_ask g.U.Unit.comes_to g.U.Unit.number g.U.Unit.fixed g.U.Unit.stands (g.K.Place.Seat.opening c.args.seat.now) (g.K.Place.Seat.kinds c.args.seat.now) (g.K.Place.Seat.mine c.args.seat.now) (g.K.Place.Seat.number c.args.seat.now) c.args.unit.now y Gives) (sym c.take-handed.ensures.value) c.requires.driven) c.next.new.self c.in_ok-op.op c.in_ok-op.ensures.gives c.in_ok-op.ensures.owed c.in_ok-op.ensures.fixed c.in_ok-reply.reply c.in_ok-reply.ensures.reply)))

pub returns-then-not-asks-clause-stuck : goal.returns-then-not-asks-clause-stuck
returns-then-not-asks-clause-stuck g c = λ e. met_stuck (g.K.Place.Seat.mine c.args.seat.now) (g.K.Place.Seat.mine c.apply.new.seat) _ c.in_ok-reply.ensures.added (sym c.told_by-after.ensures ∙ e)

pub returns-else-not-asks-clause-driven : goal.returns-else-not-asks-clause-driven
returns-else-not-asks-clause-driven g c =
    subst (λ d. IsDriven g.U.Inst.Instance.wants g.U.Inst.Instance.same_datum g.U.Unit.opening g.U.Unit.kinds g.U.Unit.owes_edge g.U.Unit.owes_datum g.U.Unit.may_ask g.U.Unit.comes_to g.U.Unit.number g.U.Unit.fixed g.U.Unit.stands (g.K.Place.Seat.opening c.apply.new.seat) (g.K.Place.Seat.kinds c.apply.new.seat) (g.K.Place.Seat.mine c.apply.new.seat) (g.K.Place.Seat.number c.apply.new.seat) c.next.new.self c.take-handed.new.self d) (sym c.next_of-doing.ensures)
    (subst (λ y. IsDriven g.U.Inst.Instance.wants g.U.Inst.Instance.same_datum g.U.Unit.opening g.U.Unit.kinds g.U.Unit.owes_edge g.U.Unit.owes_datum g.U.Unit.may_ask g.U.Unit.comes_to g.U.Unit.number g.U.Unit.fixed g.U.Unit.stands (g.K.Place.Seat.opening c.apply.new.seat) (g.K.Place.Seat.kinds c.apply.new.seat) (g.K.Place.Seat.mine c.apply.new.seat) (g.K.Place.Seat.number c.apply.new.seat) c.next.new.self y (doing_after c.in_ok-op.op)) (sym c.take-handed.ensures.after)
    (subst (λ b. IsDriven g.U.Inst.Instance.wants g.U.Inst.Instance.same_datum g.U.Unit.opening g.U.Unit.kinds g.U.Unit.owes_edge g.U.Unit.owes_datum g.U.Unit.may_ask g.U.Unit.comes_to g.U.Unit.number g.U.Unit.fixed g.U.Unit.stands (g.K.Place.Seat.opening c.apply.new.seat) (g.K.Place.Seat.kinds c.apply.new.seat) (g.K.Place.Seat.mine c.apply.new.seat) (g.K.Place.Seat.number c.apply.new.seat) c.next.new.self (cond b None (Some c.in_ok-reply.reply)) (doing_after c.in_ok-op.op)) (sym c.is_ask-asks.ensures ∙ c.if-not-asks.false)
    (driven_there g.U.Inst.Instance.wants g.U.Inst.Instance.same_datum g.U.Unit.opening g.U.Unit.kinds g.U.Unit.owes_edge g.U.Unit.owes_datum g.U.Unit.may_ask g.U.Unit.comes_to g.U.Unit.number g.U.Unit.fixed g.U.Unit.stands (g.K.Place.Seat.opening c.args.seat.now) (g.K.Place.Seat.opening c.apply.new.seat) (g.K.Place.Seat.kinds c.args.seat.now) (g.K.Place.Seat.kinds c.apply.new.seat) _ (g.K.Place.Seat.mine c.apply.new.seat) (g.K.Place.Seat.number c.args.seat.now) (g.K.Place.Seat.number c.apply.new.seat) c.next.new.self (waits_next c.in_ok-op.op c.in_ok-reply.reply) (doing_after c.in_ok-op.op) (c.in_ok-reply.ensures.run.0) (c.in_ok-reply.ensures.run.1) c.in_ok-reply.ensures.added c.in_ok-reply.ensures.seat.1
    (driven_give g.U.Inst.Instance.wants g.U.Inst.Instance.same_datum g.U.Unit.opening g.U.Unit.kinds g.U.Unit.owes_edge g.U.Unit.owes_datum g.U.Unit.may_ask g.U.Unit.comes_to g.U.Unit.number g.U.Unit.fixed g.U.Unit.stands (g.K.Place.Seat.opening c.args.seat.now) (g.K.Place.Seat.kinds c.args.seat.now) (g.K.Place.Seat.mine c.args.seat.now) (g.K.Place.Seat.number c.args.seat.now) c.args.unit.now c.take-handed.result (subst (λ y. IsDriven g.U.Inst.Instance.wants g.U.Inst.Instance.same_datum g.U.Unit.opening g.U.Unit.kinds g.U.Unit.owes_edge g.U.Unit.owes_datum g.U.Unit.may_ask g.U.Unit.comes_to g.U.Unit.number g.U.Unit.fixed g.U.Unit.stands (g.K.Place.Seat.opening c.args.seat.now) (g.K.Place.Seat.kinds c.args.seat.now) (g.K.Place.Seat.mine c.args.seat.now) (g.K.Place.Seat.number c.args.seat.now) c.args.unit.now y Gives) (sym c.take-handed.ensures.value) c.requires.driven) c.next.new.self c.in_ok-op.op c.in_ok-op.ensures.gives c.in_ok-op.ensures.owed c.in_ok-op.ensures.fixed c.in_ok-reply.reply c.in_ok-reply.ensures.reply))))

pub returns-then-not-asks-clause-met : goal.returns-then-not-asks-clause-met
returns-then-not-asks-clause-met g c = still_met (g.K.Place.Seat.mine c.args.seat.now) (g.K.Place.Seat.mine c.apply.new.seat) _ c.in_ok-reply.ensures.added

pub returns-else-not-asks-clause-met : goal.returns-else-not-asks-clause-met
returns-else-not-asks-clause-met g c = still_met (g.K.Place.Seat.mine c.args.seat.now) (g.K.Place.Seat.mine c.apply.new.seat) _ c.in_ok-reply.ensures.added

pub returns-then-not-asks-clause-added : goal.returns-then-not-asks-clause-added
returns-then-not-asks-clause-added g c = (record { unit = g.K.Place.Seat.number c.args.seat.now; op = c.in_ok-op.op; reply = c.in_ok-reply.reply }, c.in_ok-reply.ensures.added, refl, c.told_by-after.ensures)

pub returns-else-not-asks-clause-added : goal.returns-else-not-asks-clause-added
returns-else-not-asks-clause-added g c = (record { unit = g.K.Place.Seat.number c.args.seat.now; op = c.in_ok-op.op; reply = c.in_ok-reply.reply }, c.in_ok-reply.ensures.added, refl, c.told_by-after.ensures)
