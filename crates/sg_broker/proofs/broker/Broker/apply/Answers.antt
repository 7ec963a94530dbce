use Rattle.sg_broker.proofs.Seated.{told_aside, told_adds, told_reply, still_ahead}
use Rattle.sg_broker.proofs.broker.Broker.apply.Goals as goal

pub invariant_of-seat : goal.invariant_of-seat
invariant_of-seat g c =
    let i = c.seat.inside in
    let k = i.aside.kept in
    let x = c.seat.invariant in
    (x.0, x.1, x.2, x.3, x.4, told_aside g.I.Instance.wants g.I.Instance.same_datum i.seat i.number i.aside.sight i.aside.count k.events.items k.ask i.spent c.args.seat.now c.seat.view_is c.seat.invariant.5 c.args.op c.requires.may c.in-Told.reply c.keep.new.kept.events.items c.keep.new.kept.ask c.in-Told.ensures.comes)

pub apply_in_turn-requires-clause-ahead : goal.apply_in_turn-requires-clause-ahead
apply_in_turn-requires-clause-ahead g c =
    let i = c.seat.inside in
    let k = i.aside.kept in
    let x = c.in-Turn.ensures.comes in
    still_ahead g.I.Instance.wants g.I.Instance.same_datum i.seat i.number i.aside.sight i.aside.count k.events.items k.ask i.spent c.args.seat.now c.seat.view_is c.seat.invariant.5 c.args.op c.in-Turn.op x.0 c.in-Turn.ahead x.1

pub returns-in-Told-clause-ok : goal.returns-in-Told-clause-ok
returns-in-Told-clause-ok g c =
    let i = c.seat.inside in
    let k = i.aside.kept in
    told_adds g.I.Instance.wants g.I.Instance.same_datum i.seat i.number i.aside.sight i.aside.count k.events.items k.ask i.spent c.args.seat.now c.seat.view_is c.seat.invariant.5 c.args.op c.requires.may c.in-Told.reply c.keep.new.kept.events.items c.keep.new.kept.ask c.in-Told.ensures.comes c.in-Told.ensures.room

pub returns-in-Told-clause-reply : goal.returns-in-Told-clause-reply
returns-in-Told-clause-reply g c =
    let i = c.seat.inside in
    let k = i.aside.kept in
    told_reply g.I.Instance.wants g.I.Instance.same_datum i.seat i.number i.aside.sight i.aside.count k.events.items k.ask i.spent c.args.seat.now c.seat.view_is c.seat.invariant.5 c.args.op c.requires.may c.in-Told.reply c.keep.new.kept.events.items c.keep.new.kept.ask c.in-Told.ensures.comes
