use Rattle.std.proofs.Common.{◌≡◌, Option, Some, None, cond, sym, ap, ◌∙◌, subst}
use Rattle.sg_unit.specs.Served.{IsServed}
use Rattle.sg_unit.proofs.Driving.{served_hands, desk_may, desk_own, desk_served}
use Rattle.sg_unit.proofs.tests.step.Goals as goal

pub next-requires : goal.next-requires
next-requires g c =
    let s = subst (λ y. IsServed g.U.Inst.Instance.wants g.U.Inst.Instance.same_datum g.U.Unit.opening g.U.Unit.kinds g.U.Unit.owes_edge g.U.Unit.owes_datum g.U.Unit.may_ask g.U.Unit.comes_to g.U.Unit.number g.U.Unit.fixed g.U.Unit.stands (g.K.Place.Seat.mine c.args.seat.now) (g.K.Place.Seat.number c.args.seat.now) (g.U.Unit.fixed c.args.unit.now) c.args.unit.now y) (sym c.take-handed.ensures.value) c.requires.served in
    served_hands g.U.Inst.Instance.wants g.U.Inst.Instance.same_datum g.U.Unit.opening g.U.Unit.kinds g.U.Unit.owes_edge g.U.Unit.owes_datum g.U.Unit.may_ask g.U.Unit.comes_to g.U.Unit.number g.U.Unit.fixed g.U.Unit.stands (g.K.Place.Seat.mine c.args.seat.now) (g.K.Place.Seat.number c.args.seat.now) (g.U.Unit.fixed c.args.unit.now) c.args.unit.now c.take-handed.result s c.requires.own c.requires.free.0 c.requires.free.1

pub apply-requires-clause-may : goal.apply-requires-clause-may
apply-requires-clause-may g c =
    let s = subst (λ y. IsServed g.U.Inst.Instance.wants g.U.Inst.Instance.same_datum g.U.Unit.opening g.U.Unit.kinds g.U.Unit.owes_edge g.U.Unit.owes_datum g.U.Unit.may_ask g.U.Unit.comes_to g.U.Unit.number g.U.Unit.fixed g.U.Unit.stands (g.K.Place.Seat.mine c.args.seat.now) (g.K.Place.Seat.number c.args.seat.now) (g.U.Unit.fixed c.args.unit.now) c.args.unit.now y) (sym c.take-handed.ensures.value) c.requires.served in
    desk_may g.U.Inst.Instance.wants g.U.Inst.Instance.same_datum g.U.Unit.opening g.U.Unit.kinds g.U.Unit.owes_edge g.U.Unit.owes_datum g.U.Unit.may_ask g.U.Unit.comes_to g.U.Unit.number g.U.Unit.fixed g.U.Unit.stands (g.K.Place.Seat.mine c.args.seat.now) (g.K.Place.Seat.number c.args.seat.now) (g.U.Unit.fixed c.args.unit.now) c.args.unit.now c.take-handed.result s c.requires.own c.requires.free.0 c.requires.free.1 c.next.new.self c.in_ok-op.op c.in_ok-op.ensures.gives (g.K.Place.Seat.opening c.args.seat.now) (g.K.Place.Seat.kinds c.args.seat.now) c.requires.run.0 c.requires.run.1

pub returns-then-not-asks-clause-own : goal.returns-then-not-asks-clause-own
returns-then-not-asks-clause-own g c =
    let s = subst (λ y. IsServed g.U.Inst.Instance.wants g.U.Inst.Instance.same_datum g.U.Unit.opening g.U.Unit.kinds g.U.Unit.owes_edge g.U.Unit.owes_datum g.U.Unit.may_ask g.U.Unit.comes_to g.U.Unit.number g.U.Unit.fixed g.U.Unit.stands (g.K.Place.Seat.mine c.args.seat.now) (g.K.Place.Seat.number c.args.seat.now) (g.U.Unit.fixed c.args.unit.now) c.args.unit.now y) (sym c.take-handed.ensures.value) c.requires.served in
    desk_own g.U.Inst.Instance.wants g.U.Inst.Instance.same_datum g.U.Unit.opening g.U.Unit.kinds g.U.Unit.owes_edge g.U.Unit.owes_datum g.U.Unit.may_ask g.U.Unit.comes_to g.U.Unit.number g.U.Unit.fixed g.U.Unit.stands (g.K.Place.Seat.mine c.args.seat.now) (g.K.Place.Seat.number c.args.seat.now) (g.U.Unit.fixed c.args.unit.now) c.args.unit.now c.take-handed.result s c.requires.own c.requires.free.0 c.requires.free.1 c.next.new.self c.in_ok-op.op c.in_ok-op.ensures.gives c.in_ok-op.ensures.owed c.in_ok-op.ensures.fixed c.in_ok-reply.reply (g.K.Place.Seat.opening c.args.seat.now) (g.K.Place.Seat.kinds c.args.seat.now) c.requires.run.0 c.requires.run.1 (g.K.Place.Seat.mine c.apply.new.seat) c.in_ok-reply.ensures.added c.in_ok-reply.ensures.reply

pub returns-then-not-asks-clause-served : goal.returns-then-not-asks-clause-served
returns-then-not-asks-clause-served g c =
    let s = subst (λ y. IsServed g.U.Inst.Instance.wants g.U.Inst.Instance.same_datum g.U.Unit.opening g.U.Unit.kinds g.U.Unit.owes_edge g.U.Unit.owes_datum g.U.Unit.may_ask g.U.Unit.comes_to g.U.Unit.number g.U.Unit.fixed g.U.Unit.stands (g.K.Place.Seat.mine c.args.seat.now) (g.K.Place.Seat.number c.args.seat.now) (g.U.Unit.fixed c.args.unit.now) c.args.unit.now y) (sym c.take-handed.ensures.value) c.requires.served in
    subst (λ b. IsServed g.U.Inst.Instance.wants g.U.Inst.Instance.same_datum g.U.Unit.opening g.U.Unit.kinds g.U.Unit.owes_edge g.U.Unit.owes_datum g.U.Unit.may_ask g.U.Unit.comes_to g.U.Unit.number g.U.Unit.fixed g.U.Unit.stands (g.K.Place.Seat.mine c.apply.new.seat) (g.K.Place.Seat.number c.args.seat.now) (g.U.Unit.fixed c.args.unit.now) c.next.new.self (cond b None (Some c.in_ok-reply.reply))) (sym c.is_ask-asks.ensures ∙ c.if-not-asks.true)
    (desk_served g.U.Inst.Instance.wants g.U.Inst.Instance.same_datum g.U.Unit.opening g.U.Unit.kinds g.U.Unit.owes_edge g.U.Unit.owes_datum g.U.Unit.may_ask g.U.Unit.comes_to g.U.Unit.number g.U.Unit.fixed g.U.Unit.stands (g.K.Place.Seat.mine c.args.seat.now) (g.K.Place.Seat.number c.args.seat.now) (g.U.Unit.fixed c.args.unit.now) c.args.unit.now c.take-handed.result s c.requires.own c.requires.free.0 c.requires.free.1 c.next.new.self c.in_ok-op.op c.in_ok-op.ensures.gives c.in_ok-op.ensures.owed c.in_ok-op.ensures.fixed c.in_ok-reply.reply (g.K.Place.Seat.mine c.apply.new.seat) c.in_ok-reply.ensures.added)

pub returns-else-not-asks-clause-own : goal.returns-else-not-asks-clause-own
returns-else-not-asks-clause-own g c =
    let s = subst (λ y. IsServed g.U.Inst.Instance.wants g.U.Inst.Instance.same_datum g.U.Unit.opening g.U.Unit.kinds g.U.Unit.owes_edge g.U.Unit.owes_datum g.U.Unit.may_ask g.U.Unit.comes_to g.U.Unit.number g.U.Unit.fixed g.U.Unit.stands (g.K.Place.Seat.mine c.args.seat.now) (g.K.Place.Seat.number c.args.seat.now) (g.U.Unit.fixed c.args.unit.now) c.args.unit.now y) (sym c.take-handed.ensures.value) c.requires.served in
    desk_own g.U.Inst.Instance.wants g.U.Inst.Instance.same_datum g.U.Unit.opening g.U.Unit.kinds g.U.Unit.owes_edge g.U.Unit.owes_datum g.U.Unit.may_ask g.U.Unit.comes_to g.U.Unit.number g.U.Unit.fixed g.U.Unit.stands (g.K.Place.Seat.mine c.args.seat.now) (g.K.Place.Seat.number c.args.seat.now) (g.U.Unit.fixed c.args.unit.now) c.args.unit.now c.take-handed.result s c.requires.own c.requires.free.0 c.requires.free.1 c.next.new.self c.in_ok-op.op c.in_ok-op.ensures.gives c.in_ok-op.ensures.owed c.in_ok-op.ensures.fixed c.in_ok-reply.reply (g.K.Place.Seat.opening c.args.seat.now) (g.K.Place.Seat.kinds c.args.seat.now) c.requires.run.0 c.requires.run.1 (g.K.Place.Seat.mine c.apply.new.seat) c.in_ok-reply.ensures.added c.in_ok-reply.ensures.reply

pub returns-else-not-asks-clause-served : goal.returns-else-not-asks-clause-served
returns-else-not-asks-clause-served g c =
    let s = subst (λ y. IsServed g.U.Inst.Instance.wants g.U.Inst.Instance.same_datum g.U.Unit.opening g.U.Unit.kinds g.U.Unit.owes_edge g.U.Unit.owes_datum g.U.Unit.may_ask g.U.Unit.comes_to g.U.Unit.number g.U.Unit.fixed g.U.Unit.stands (g.K.Place.Seat.mine c.args.seat.now) (g.K.Place.Seat.number c.args.seat.now) (g.U.Unit.fixed c.args.unit.now) c.args.unit.now y) (sym c.take-handed.ensures.value) c.requires.served in
    subst (λ y. IsServed g.U.Inst.Instance.wants g.U.Inst.Instance.same_datum g.U.Unit.opening g.U.Unit.kinds g.U.Unit.owes_edge g.U.Unit.owes_datum g.U.Unit.may_ask g.U.Unit.comes_to g.U.Unit.number g.U.Unit.fixed g.U.Unit.stands (g.K.Place.Seat.mine c.apply.new.seat) (g.K.Place.Seat.number c.args.seat.now) (g.U.Unit.fixed c.args.unit.now) c.next.new.self y) (sym c.take-handed.ensures.after)
    (subst (λ b. IsServed g.U.Inst.Instance.wants g.U.Inst.Instance.same_datum g.U.Unit.opening g.U.Unit.kinds g.U.Unit.owes_edge g.U.Unit.owes_datum g.U.Unit.may_ask g.U.Unit.comes_to g.U.Unit.number g.U.Unit.fixed g.U.Unit.stands (g.K.Place.Seat.mine c.apply.new.seat) (g.K.Place.Seat.number c.args.seat.now) (g.U.Unit.fixed c.args.unit.now) c.next.new.self (cond b None (Some c.in_ok-reply.reply))) (sym c.is_ask-asks.ensures ∙ c.if-not-asks.false)
    (desk_served g.U.Inst.Instance.wants g.U.Inst.Instance.same_datum g.U.Unit.opening g.U.Unit.kinds g.U.Unit.owes_edge g.U.Unit.owes_datum g.U.Unit.may_ask g.U.Unit.comes_to g.U.Unit.number g.U.Unit.fixed g.U.Unit.stands (g.K.Place.Seat.mine c.args.seat.now) (g.K.Place.Seat.number c.args.seat.now) (g.U.Unit.fixed c.args.unit.now) c.args.unit.now c.take-handed.result s c.requires.own c.requires.free.0 c.requires.free.1 c.next.new.self c.in_ok-op.op c.in_ok-op.ensures.gives c.in_ok-op.ensures.owed c.in_ok-op.ensures.fixed c.in_ok-reply.reply (g.K.Place.Seat.mine c.apply.new.seat) c.in_ok-reply.ensures.added))
