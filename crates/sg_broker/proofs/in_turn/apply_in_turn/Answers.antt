use Rattle.std.proofs.Common.{refl, sym, ap, ◌∙◌, length}
use Rattle.sg_broker.specs.Aside.{told_by}
use Rattle.sg_broker.proofs.Turning.{of_lock, taken_as, free, keeps, may_there, ahead_there, own_lock, inside_lock, root_stays, before_is, more_there, seat_again, at_again, spends_by, adds_by, replies_by, errs_by}
use Rattle.sg_broker.proofs.in_turn.apply_in_turn.Goals as goal

pub lock-core-requires-clause-own : goal.lock-core-requires-clause-own
lock-core-requires-clause-own g c =
    let i = c.seat.inside in
    of_lock c.args.turn.now c.args.seat.now i.seat i.number i.aside.kept.events.items i.spent c.seat.view_is c.seat.invariant.3 c.requires.own.0 c.requires.root

pub step-reply-requires-clause-free : goal.step-reply-requires-clause-free
step-reply-requires-clause-free g c =
    let i = c.seat.inside in
    let k = i.aside.kept in
    let x = taken_as g.I.Instance.wants g.I.Instance.same_datum c.args.turn.now i.seat c.lock-core.new.seat c.lock-core.result.core.value c.deref.result.now c.deref_mut.result.now c.deref.ensures c.deref_mut.ensures.value c.lock-core.ensures.root c.lock-core.ensures.begins c.lock-core.ensures.own c.log-before.ensures.core c.lock-core.ensures.seat in
    free g.I.Instance.wants g.I.Instance.same_datum c.args.turn.now c.args.seat.now i.seat i.number i.aside.sight i.aside.count k.events.items k.ask i.spent c.seat.view_is c.seat.invariant c.requires.own.0 c.deref_mut.result.now x.0 x.1 x.2 x.3

pub step-reply-requires-clause-kept : goal.step-reply-requires-clause-kept
step-reply-requires-clause-kept g c =
    let i = c.seat.inside in
    let k = i.aside.kept in
    let x = taken_as g.I.Instance.wants g.I.Instance.same_datum c.args.turn.now i.seat c.lock-core.new.seat c.lock-core.result.core.value c.deref.result.now c.deref_mut.result.now c.deref.ensures c.deref_mut.ensures.value c.lock-core.ensures.root c.lock-core.ensures.begins c.lock-core.ensures.own c.log-before.ensures.core c.lock-core.ensures.seat in
    keeps g.I.Instance.wants g.I.Instance.same_datum c.args.turn.now c.args.seat.now i.seat i.number i.aside.sight i.aside.count k.events.items k.ask i.spent c.seat.view_is c.seat.invariant c.requires.own.0 c.deref_mut.result.now x.0 x.1 x.2 x.3

pub step-reply-requires-clause-may : goal.step-reply-requires-clause-may
step-reply-requires-clause-may g c =
    let i = c.seat.inside in
    let k = i.aside.kept in
    let x = taken_as g.I.Instance.wants g.I.Instance.same_datum c.args.turn.now i.seat c.lock-core.new.seat c.lock-core.result.core.value c.deref.result.now c.deref_mut.result.now c.deref.ensures c.deref_mut.ensures.value c.lock-core.ensures.root c.lock-core.ensures.begins c.lock-core.ensures.own c.log-before.ensures.core c.lock-core.ensures.seat in
    may_there g.I.Instance.wants g.I.Instance.same_datum c.args.turn.now c.args.seat.now i.seat i.number i.aside.sight i.aside.count k.events.items k.ask i.spent c.seat.view_is c.seat.invariant c.requires.own.0 c.deref_mut.result.now x.0 x.1 x.2 x.3 c.args.op c.requires.may

pub step-reply-requires-clause-ahead : goal.step-reply-requires-clause-ahead
step-reply-requires-clause-ahead g c =
    let i = c.seat.inside in
    let k = i.aside.kept in
    let x = taken_as g.I.Instance.wants g.I.Instance.same_datum c.args.turn.now i.seat c.lock-core.new.seat c.lock-core.result.core.value c.deref.result.now c.deref_mut.result.now c.deref.ensures c.deref_mut.ensures.value c.lock-core.ensures.root c.lock-core.ensures.begins c.lock-core.ensures.own c.log-before.ensures.core c.lock-core.ensures.seat in
    ahead_there g.I.Instance.wants g.I.Instance.same_datum c.args.turn.now c.args.seat.now i.seat i.number i.aside.sight i.aside.count k.events.items k.ask i.spent c.seat.view_is c.seat.invariant c.requires.own.0 c.deref_mut.result.now x.0 x.1 x.2 x.3 c.args.op c.args.ahead c.requires.ahead

pub give-requires-clause-own : goal.give-requires-clause-own
give-requires-clause-own g c =
    let i = c.seat.inside in
    let k = i.aside.kept in
    let x = taken_as g.I.Instance.wants g.I.Instance.same_datum c.args.turn.now i.seat c.lock-core.new.seat c.lock-core.result.core.value c.deref.result.now c.deref_mut.result.now c.deref.ensures c.deref_mut.ensures.value c.lock-core.ensures.root c.lock-core.ensures.begins c.lock-core.ensures.own c.log-before.ensures.core c.lock-core.ensures.seat in
    own_lock g.I.Instance.wants g.I.Instance.same_datum c.args.turn.now c.args.seat.now i.seat i.number i.aside.sight i.aside.count k.events.items k.ask i.spent c.seat.view_is c.seat.invariant c.requires.own.0 c.deref_mut.result.now x.0 x.1 x.2 x.3 c.step-reply.new.core (told_by i.number c.args.op c.step-reply.result) c.step-reply.new.aside.kept.events.items c.step-reply.new.aside.kept.ask c.step-reply.ensures.gains c.step-reply.ensures.core c.lock-core.new.seat x.4

pub give-requires-clause-inside : goal.give-requires-clause-inside
give-requires-clause-inside g c =
    let i = c.seat.inside in
    let k = i.aside.kept in
    let x = taken_as g.I.Instance.wants g.I.Instance.same_datum c.args.turn.now i.seat c.lock-core.new.seat c.lock-core.result.core.value c.deref.result.now c.deref_mut.result.now c.deref.ensures c.deref_mut.ensures.value c.lock-core.ensures.root c.lock-core.ensures.begins c.lock-core.ensures.own c.log-before.ensures.core c.lock-core.ensures.seat in
    inside_lock g.I.Instance.wants g.I.Instance.same_datum c.args.turn.now c.args.seat.now i.seat i.number i.aside.sight i.aside.count k.events.items k.ask i.spent c.seat.view_is c.seat.invariant c.requires.own.0 c.deref_mut.result.now x.0 x.1 x.2 x.3 c.step-reply.new.core (told_by i.number c.args.op c.step-reply.result) c.step-reply.new.aside.kept.events.items c.step-reply.new.aside.kept.ask c.step-reply.ensures.gains c.step-reply.ensures.core c.lock-core.new.seat x.4 (ap (λ s. s.spent) c.seat.view_is ∙ c.requires.own.1)

pub give-requires-clause-root : goal.give-requires-clause-root
give-requires-clause-root g c =
    let i = c.seat.inside in
    let k = i.aside.kept in
    let x = taken_as g.I.Instance.wants g.I.Instance.same_datum c.args.turn.now i.seat c.lock-core.new.seat c.lock-core.result.core.value c.deref.result.now c.deref_mut.result.now c.deref.ensures c.deref_mut.ensures.value c.lock-core.ensures.root c.lock-core.ensures.begins c.lock-core.ensures.own c.log-before.ensures.core c.lock-core.ensures.seat in
    root_stays g.I.Instance.wants g.I.Instance.same_datum c.args.turn.now c.args.seat.now i.seat i.number i.aside.sight i.aside.count k.events.items k.ask i.spent c.seat.view_is c.seat.invariant c.requires.own.0 c.deref_mut.result.now x.0 x.1 x.2 x.3 c.step-reply.new.core (told_by i.number c.args.op c.step-reply.result) c.step-reply.new.aside.kept.events.items c.step-reply.new.aside.kept.ask c.step-reply.ensures.gains c.step-reply.ensures.core c.lock-core.new.seat x.4

pub give-requires-clause-before : goal.give-requires-clause-before
give-requires-clause-before g c =
    let i = c.seat.inside in
    let k = i.aside.kept in
    let x = taken_as g.I.Instance.wants g.I.Instance.same_datum c.args.turn.now i.seat c.lock-core.new.seat c.lock-core.result.core.value c.deref.result.now c.deref_mut.result.now c.deref.ensures c.deref_mut.ensures.value c.lock-core.ensures.root c.lock-core.ensures.begins c.lock-core.ensures.own c.log-before.ensures.core c.lock-core.ensures.seat in
    before_is g.I.Instance.wants g.I.Instance.same_datum c.args.turn.now c.args.seat.now i.seat i.number i.aside.sight i.aside.count k.events.items k.ask i.spent c.seat.view_is c.seat.invariant c.requires.own.0 c.deref_mut.result.now x.0 x.1 x.2 x.3 c.step-reply.new.core (told_by i.number c.args.op c.step-reply.result) c.step-reply.new.aside.kept.events.items c.step-reply.new.aside.kept.ask c.step-reply.ensures.gains c.step-reply.ensures.core c.lock-core.new.seat x.4 (length c.log-before.result.now) (ap length (c.log-before.ensures.log ∙ ap (λ c. c.log) (c.deref.ensures ∙ sym c.deref_mut.ensures.value)))

pub give-requires-clause-more : goal.give-requires-clause-more
give-requires-clause-more g c =
    let i = c.seat.inside in
    let k = i.aside.kept in
    let x = taken_as g.I.Instance.wants g.I.Instance.same_datum c.args.turn.now i.seat c.lock-core.new.seat c.lock-core.result.core.value c.deref.result.now c.deref_mut.result.now c.deref.ensures c.deref_mut.ensures.value c.lock-core.ensures.root c.lock-core.ensures.begins c.lock-core.ensures.own c.log-before.ensures.core c.lock-core.ensures.seat in
    more_there g.I.Instance.wants g.I.Instance.same_datum c.args.turn.now c.args.seat.now i.seat i.number i.aside.sight i.aside.count k.events.items k.ask i.spent c.seat.view_is c.seat.invariant c.requires.own.0 c.deref_mut.result.now x.0 x.1 x.2 x.3 c.step-reply.new.core (told_by i.number c.args.op c.step-reply.result) c.step-reply.new.aside.kept.events.items c.step-reply.new.aside.kept.ask c.step-reply.ensures.gains c.step-reply.ensures.core c.lock-core.new.seat x.4

pub invariant_of-seat : goal.invariant_of-seat
invariant_of-seat g c =
    let i = c.seat.inside in
    let k = i.aside.kept in
    let x = taken_as g.I.Instance.wants g.I.Instance.same_datum c.args.turn.now i.seat c.lock-core.new.seat c.lock-core.result.core.value c.deref.result.now c.deref_mut.result.now c.deref.ensures c.deref_mut.ensures.value c.lock-core.ensures.root c.lock-core.ensures.begins c.lock-core.ensures.own c.log-before.ensures.core c.lock-core.ensures.seat in
    seat_again g.I.Instance.wants g.I.Instance.same_datum c.args.turn.now c.args.seat.now i.seat i.number i.aside.sight i.aside.count k.events.items k.ask i.spent c.seat.view_is c.seat.invariant c.requires.own.0 c.deref_mut.result.now x.0 x.1 x.2 x.3 c.step-reply.new.core (told_by i.number c.args.op c.step-reply.result) c.step-reply.new.aside.kept.events.items c.step-reply.new.aside.kept.ask c.step-reply.ensures.gains c.step-reply.ensures.core c.lock-core.new.seat x.4 c.give.new.seat c.give.ensures c.step-reply.new.aside.count c.step-reply.ensures.count c.step-reply.new.aside.sight c.step-reply.ensures.sight c.is_err-seat-inside.result (spends_by g.I.Instance.wants g.I.Instance.same_datum c.args.turn.now c.args.seat.now i.seat i.number i.aside.sight i.aside.count k.events.items k.ask i.spent c.seat.view_is c.seat.invariant c.requires.own.0 c.deref_mut.result.now x.0 x.1 x.2 x.3 c.step-reply.new.core (told_by i.number c.args.op c.step-reply.result) c.step-reply.new.aside.kept.events.items c.step-reply.new.aside.kept.ask c.step-reply.ensures.gains c.step-reply.ensures.core c.lock-core.new.seat x.4 c.give.new.seat c.give.ensures c.args.op (ap (λ s. s.spent) c.seat.view_is ∙ c.requires.own.1) c.is_err-seat-inside.result c.step-reply.result refl c.step-reply.ensures.none c.is_err-seat-inside.ensures.value)

pub returns-clause-ok : goal.returns-clause-ok
returns-clause-ok g c =
    let i = c.seat.inside in
    let k = i.aside.kept in
    let x = taken_as g.I.Instance.wants g.I.Instance.same_datum c.args.turn.now i.seat c.lock-core.new.seat c.lock-core.result.core.value c.deref.result.now c.deref_mut.result.now c.deref.ensures c.deref_mut.ensures.value c.lock-core.ensures.root c.lock-core.ensures.begins c.lock-core.ensures.own c.log-before.ensures.core c.lock-core.ensures.seat in
    adds_by g.I.Instance.wants g.I.Instance.same_datum c.args.turn.now c.args.seat.now i.seat i.number i.aside.sight i.aside.count k.events.items k.ask i.spent c.seat.view_is c.seat.invariant c.requires.own.0 c.deref_mut.result.now x.0 x.1 x.2 x.3 c.step-reply.new.core (told_by i.number c.args.op c.step-reply.result) c.step-reply.new.aside.kept.events.items c.step-reply.new.aside.kept.ask c.step-reply.ensures.gains c.step-reply.ensures.core c.lock-core.new.seat x.4 c.give.new.seat c.give.ensures c.args.op (ap (λ s. s.spent) c.seat.view_is ∙ c.requires.own.1) c.is_err-seat-inside.result c.step-reply.result refl c.step-reply.ensures.none c.is_err-seat-inside.ensures.value

pub returns-clause-reply : goal.returns-clause-reply
returns-clause-reply g c =
    let i = c.seat.inside in
    let k = i.aside.kept in
    let x = taken_as g.I.Instance.wants g.I.Instance.same_datum c.args.turn.now i.seat c.lock-core.new.seat c.lock-core.result.core.value c.deref.result.now c.deref_mut.result.now c.deref.ensures c.deref_mut.ensures.value c.lock-core.ensures.root c.lock-core.ensures.begins c.lock-core.ensures.own c.log-before.ensures.core c.lock-core.ensures.seat in
    replies_by g.I.Instance.wants g.I.Instance.same_datum c.args.turn.now c.args.seat.now i.seat i.number i.aside.sight i.aside.count k.events.items k.ask i.spent c.seat.view_is c.seat.invariant c.requires.own.0 c.deref_mut.result.now x.0 x.1 x.2 x.3 c.step-reply.new.core (told_by i.number c.args.op c.step-reply.result) c.step-reply.new.aside.kept.events.items c.step-reply.new.aside.kept.ask c.step-reply.ensures.gains c.step-reply.ensures.core c.lock-core.new.seat x.4 c.give.new.seat c.give.ensures c.args.op (ap (λ s. s.spent) c.seat.view_is ∙ c.requires.own.1) c.is_err-seat-inside.result c.step-reply.result refl c.step-reply.ensures.none

pub returns-clause-err : goal.returns-clause-err
returns-clause-err g c =
    let i = c.seat.inside in
    let k = i.aside.kept in
    let x = taken_as g.I.Instance.wants g.I.Instance.same_datum c.args.turn.now i.seat c.lock-core.new.seat c.lock-core.result.core.value c.deref.result.now c.deref_mut.result.now c.deref.ensures c.deref_mut.ensures.value c.lock-core.ensures.root c.lock-core.ensures.begins c.lock-core.ensures.own c.log-before.ensures.core c.lock-core.ensures.seat in
    errs_by g.I.Instance.wants g.I.Instance.same_datum c.args.turn.now c.args.seat.now i.seat i.number i.aside.sight i.aside.count k.events.items k.ask i.spent c.seat.view_is c.seat.invariant c.requires.own.0 c.deref_mut.result.now x.0 x.1 x.2 x.3 c.step-reply.new.core (told_by i.number c.args.op c.step-reply.result) c.step-reply.new.aside.kept.events.items c.step-reply.new.aside.kept.ask c.step-reply.ensures.gains c.step-reply.ensures.core c.lock-core.new.seat x.4 c.give.new.seat c.give.ensures c.args.op (ap (λ s. s.spent) c.seat.view_is ∙ c.requires.own.1) c.is_err-seat-inside.result c.step-reply.result refl c.step-reply.ensures.err c.is_err-seat-inside.ensures.value

pub returns-clause-seat : goal.returns-clause-seat
returns-clause-seat g c =
    let i = c.seat.inside in
    let k = i.aside.kept in
    let x = taken_as g.I.Instance.wants g.I.Instance.same_datum c.args.turn.now i.seat c.lock-core.new.seat c.lock-core.result.core.value c.deref.result.now c.deref_mut.result.now c.deref.ensures c.deref_mut.ensures.value c.lock-core.ensures.root c.lock-core.ensures.begins c.lock-core.ensures.own c.log-before.ensures.core c.lock-core.ensures.seat in
    (at_again g.I.Instance.wants g.I.Instance.same_datum c.args.turn.now c.args.seat.now i.seat i.number i.aside.sight i.aside.count k.events.items k.ask i.spent c.seat.view_is c.seat.invariant c.requires.own.0 c.deref_mut.result.now x.0 x.1 x.2 x.3 c.step-reply.new.core (told_by i.number c.args.op c.step-reply.result) c.step-reply.new.aside.kept.events.items c.step-reply.new.aside.kept.ask c.step-reply.ensures.gains c.step-reply.ensures.core c.lock-core.new.seat x.4 c.give.new.seat c.give.ensures c.is_err-seat-inside.result, ap (λ s. s.number) c.seat.view_is)
