use Rattle.std.proofs.Common.{◌≡◌, ◌∙◌, ℕ, ◌<◌, List, Option, Some, None, cond, ap, sym, subst, arith, length, slice_get, slice_set, vec_len}
use Rattle.sg_unit.specs.declared.reply.Reply.{Reply}
use Rattle.sg_serial.specs.Serial.{IsTeam}
use Rattle.sg_serial.proofs.Serving.{can_hand, may_give, team_given, get_of_index, given_waits, given_none, sum_falls}
use Rattle.sg_serial.proofs.Settling.{within}
use Rattle.sg_serial.proofs.giving.give.Goals as goal

pub index_mut-requires : goal.index_mut-requires
index_mut-requires g c =
    let t = c.requires.team in
    omega (arith, within g.U.Inst.Instance.wants g.U.Inst.Instance.same_datum c.args.core.now c.args.unit c.requires.core c.requires.runs, (t.1).handed, c.args.replies.now.ok.0)

pub index_mut-requires-2 : goal.index_mut-requires-2
index_mut-requires-2 g c =
    let t = c.requires.team in
    omega (arith, within g.U.Inst.Instance.wants g.U.Inst.Instance.same_datum c.args.core.now c.args.unit c.requires.core c.requires.runs, (t.1).counted, c.args.units.now.ok.0)

pub next-requires : goal.next-requires
next-requires g c =
    let t = c.requires.team in
    let l = within g.U.Inst.Instance.wants g.U.Inst.Instance.same_datum c.args.core.now c.args.unit c.requires.core c.requires.runs in
    let at_unit = get_of_index c.args.units.now.items c.args.unit c.index_mut-2.result.now (omega (arith, l, (t.1).counted)) c.index_mut-2.ensures.value in
    let at_reply = get_of_index c.args.replies.now.items c.args.unit c.index_mut.result.now (omega (arith, l, (t.1).handed)) c.index_mut.ensures.value ∙ ap Some (sym c.take-last.ensures.value) in
    can_hand g.U.Inst.Instance.wants g.U.Inst.Instance.same_datum g.U.Unit.opening g.U.Unit.kinds g.U.Unit.owes_edge g.U.Unit.owes_datum g.U.Unit.may_ask g.U.Unit.comes_to g.U.Unit.number g.U.Unit.fixed g.U.Unit.stands t.0 c.args.units.now.items c.args.replies.now.items c.args.core.now c.requires.core t.1 c.args.unit c.requires.runs c.requires.idle c.index_mut-2.result.now c.take-last.result at_unit at_reply

pub apply-requires : goal.apply-requires
apply-requires g c =
    let t = c.requires.team in
    let l = within g.U.Inst.Instance.wants g.U.Inst.Instance.same_datum c.args.core.now c.args.unit c.requires.core c.requires.runs in
    let at_unit = get_of_index c.args.units.now.items c.args.unit c.index_mut-2.result.now (omega (arith, l, (t.1).counted)) c.index_mut-2.ensures.value in
    let at_reply = get_of_index c.args.replies.now.items c.args.unit c.index_mut.result.now (omega (arith, l, (t.1).handed)) c.index_mut.ensures.value ∙ ap Some (sym c.take-last.ensures.value) in
    record { may = may_give g.U.Inst.Instance.wants g.U.Inst.Instance.same_datum g.U.Unit.opening g.U.Unit.kinds g.U.Unit.owes_edge g.U.Unit.owes_datum g.U.Unit.may_ask g.U.Unit.comes_to g.U.Unit.number g.U.Unit.fixed g.U.Unit.stands t.0 c.args.units.now.items c.args.replies.now.items c.args.core.now c.requires.core t.1 c.args.unit c.requires.runs c.requires.idle c.index_mut-2.result.now c.take-last.result at_unit at_reply c.next.new.self c.in_ok-op.op c.in_ok-op.ensures.gives }

pub index_mut-requires-then-not-asks : goal.index_mut-requires-then-not-asks
index_mut-requires-then-not-asks g c =
    let t = c.requires.team in
    omega (arith, within g.U.Inst.Instance.wants g.U.Inst.Instance.same_datum c.args.core.now c.args.unit c.requires.core c.requires.runs, (t.1).handed, c.args.replies.now.ok.0)

pub returns-then-not-asks-clause-team : goal.returns-then-not-asks-clause-team
returns-then-not-asks-clause-team g c = λ start t.
    let l = within g.U.Inst.Instance.wants g.U.Inst.Instance.same_datum c.args.core.now c.args.unit c.requires.core c.requires.runs in
    let at_unit = get_of_index c.args.units.now.items c.args.unit c.index_mut-2.result.now (omega (arith, l, t.counted)) c.index_mut-2.ensures.value in
    let at_reply = get_of_index c.args.replies.now.items c.args.unit c.index_mut.result.now (omega (arith, l, t.handed)) c.index_mut.ensures.value ∙ ap Some (sym c.take-last.ensures.value) in
    let given = team_given g.U.Inst.Instance.wants g.U.Inst.Instance.same_datum g.U.Unit.opening g.U.Unit.kinds g.U.Unit.owes_edge g.U.Unit.owes_datum g.U.Unit.may_ask g.U.Unit.comes_to g.U.Unit.number g.U.Unit.fixed g.U.Unit.stands start c.args.units.now.items c.args.replies.now.items c.args.core.now c.requires.core t c.args.unit c.requires.runs c.requires.idle c.index_mut-2.result.now c.take-last.result at_unit at_reply c.next.new.self c.in_ok-op.op c.in_ok-op.ensures.gives c.in_ok-op.ensures.owed c.in_ok-op.ensures.fixed c.in_ok-reply.reply c.apply.new.self c.in_ok-reply.ensures.ok in
    subst (λ rs. IsTeam g.U.Inst.Instance.wants g.U.Inst.Instance.same_datum g.U.Unit.opening g.U.Unit.kinds g.U.Unit.owes_edge g.U.Unit.owes_datum g.U.Unit.may_ask g.U.Unit.comes_to g.U.Unit.number g.U.Unit.fixed g.U.Unit.stands start (slice_set c.args.units.now.items c.args.unit c.next.new.self) rs c.apply.new.self)
    (given_waits c.args.replies.now.items c.args.unit c.in_ok-op.op c.in_ok-reply.reply c.take-last.new.self (sym c.is_ask-asks.ensures ∙ c.if-not-asks.true)) given

pub returns-then-not-asks-clause-falls : goal.returns-then-not-asks-clause-falls
returns-then-not-asks-clause-falls g c =
    let t = c.requires.team in
    let l = within g.U.Inst.Instance.wants g.U.Inst.Instance.same_datum c.args.core.now c.args.unit c.requires.core c.requires.runs in
    let at_unit = get_of_index c.args.units.now.items c.args.unit c.index_mut-2.result.now (omega (arith, l, (t.1).counted)) c.index_mut-2.ensures.value in
    sum_falls g.U.Unit.measure c.args.units.now.items c.args.unit c.index_mut-2.result.now c.next.new.self at_unit c.in_ok-op.ensures.falls

pub returns-else-not-asks-clause-team : goal.returns-else-not-asks-clause-team
returns-else-not-asks-clause-team g c = λ start t.
    let l = within g.U.Inst.Instance.wants g.U.Inst.Instance.same_datum c.args.core.now c.args.unit c.requires.core c.requires.runs in
    let at_unit = get_of_index c.args.units.now.items c.args.unit c.index_mut-2.result.now (omega (arith, l, t.counted)) c.index_mut-2.ensures.value in
    let at_reply = get_of_index c.args.replies.now.items c.args.unit c.index_mut.result.now (omega (arith, l, t.handed)) c.index_mut.ensures.value ∙ ap Some (sym c.take-last.ensures.value) in
    let given = team_given g.U.Inst.Instance.wants g.U.Inst.Instance.same_datum g.U.Unit.opening g.U.Unit.kinds g.U.Unit.owes_edge g.U.Unit.owes_datum g.U.Unit.may_ask g.U.Unit.comes_to g.U.Unit.number g.U.Unit.fixed g.U.Unit.stands start c.args.units.now.items c.args.replies.now.items c.args.core.now c.requires.core t c.args.unit c.requires.runs c.requires.idle c.index_mut-2.result.now c.take-last.result at_unit at_reply c.next.new.self c.in_ok-op.op c.in_ok-op.ensures.gives c.in_ok-op.ensures.owed c.in_ok-op.ensures.fixed c.in_ok-reply.reply c.apply.new.self c.in_ok-reply.ensures.ok in
    subst (λ rs. IsTeam g.U.Inst.Instance.wants g.U.Inst.Instance.same_datum g.U.Unit.opening g.U.Unit.kinds g.U.Unit.owes_edge g.U.Unit.owes_datum g.U.Unit.may_ask g.U.Unit.comes_to g.U.Unit.number g.U.Unit.fixed g.U.Unit.stands start (slice_set c.args.units.now.items c.args.unit c.next.new.self) rs c.apply.new.self)
    (given_none c.args.replies.now.items c.args.unit c.in_ok-op.op c.in_ok-reply.reply c.take-last.new.self (sym c.is_ask-asks.ensures ∙ c.if-not-asks.false) c.take-last.ensures.after) given

pub returns-else-not-asks-clause-falls : goal.returns-else-not-asks-clause-falls
returns-else-not-asks-clause-falls g c =
    let t = c.requires.team in
    let l = within g.U.Inst.Instance.wants g.U.Inst.Instance.same_datum c.args.core.now c.args.unit c.requires.core c.requires.runs in
    let at_unit = get_of_index c.args.units.now.items c.args.unit c.index_mut-2.result.now (omega (arith, l, (t.1).counted)) c.index_mut-2.ensures.value in
    sum_falls g.U.Unit.measure c.args.units.now.items c.args.unit c.index_mut-2.result.now c.next.new.self at_unit c.in_ok-op.ensures.falls
