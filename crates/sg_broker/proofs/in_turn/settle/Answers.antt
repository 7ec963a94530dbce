use Rattle.std.proofs.Common.{[], refl, sym, ap, ◌∙◌, length, vec_len, append-nil}
use Rattle.sg_core.proofs.Beside.{is_some}
use Rattle.sg_broker.proofs.Turning.{of_lock, taken_as, free, keeps, own_lock, inside_lock, root_stays, before_is, more_there, seat_again, at_again, mine_again, hands_by}
use Rattle.sg_broker.proofs.in_turn.settle.Goals as goal

pub lock-core-requires-clause-own : goal.lock-core-requires-clause-own
lock-core-requires-clause-own g c =
    let i = c.seat.inside in
    of_lock c.args.turn.now c.args.seat.now i.seat i.number i.aside.kept.events.items i.spent c.seat.view_is c.seat.invariant.3 c.requires.own c.requires.root

pub hand_in-done-requires-clause-free : goal.hand_in-done-requires-clause-free
hand_in-done-requires-clause-free g c =
    let i = c.seat.inside in
    let k = i.aside.kept in
    let x = taken_as g.I.Instance.wants g.I.Instance.same_datum c.args.turn.now i.seat c.lock-core.new.seat c.lock-core.result.core.value c.deref.result.now c.deref_mut.result.now c.deref.ensures c.deref_mut.ensures.value c.lock-core.ensures.root c.lock-core.ensures.begins c.lock-core.ensures.own c.log-before.ensures.core c.lock-core.ensures.seat in
    free g.I.Instance.wants g.I.Instance.same_datum c.args.turn.now c.args.seat.now i.seat i.number i.aside.sight i.aside.count k.events.items k.ask i.spent c.seat.view_is c.seat.invariant c.requires.own c.deref_mut.result.now x.0 x.1 x.2 x.3

pub hand_in-done-requires-clause-kept : goal.hand_in-done-requires-clause-kept
hand_in-done-requires-clause-kept g c =
    let i = c.seat.inside in
    let k = i.aside.kept in
    let x = taken_as g.I.Instance.wants g.I.Instance.same_datum c.args.turn.now i.seat c.lock-core.new.seat c.lock-core.result.core.value c.deref.result.now c.deref_mut.result.now c.deref.ensures c.deref_mut.ensures.value c.lock-core.ensures.root c.lock-core.ensures.begins c.lock-core.ensures.own c.log-before.ensures.core c.lock-core.ensures.seat in
    keeps g.I.Instance.wants g.I.Instance.same_datum c.args.turn.now c.args.seat.now i.seat i.number i.aside.sight i.aside.count k.events.items k.ask i.spent c.seat.view_is c.seat.invariant c.requires.own c.deref_mut.result.now x.0 x.1 x.2 x.3

pub give-requires-clause-own : goal.give-requires-clause-own
give-requires-clause-own g c =
    let i = c.seat.inside in
    let k = i.aside.kept in
    let x = taken_as g.I.Instance.wants g.I.Instance.same_datum c.args.turn.now i.seat c.lock-core.new.seat c.lock-core.result.core.value c.deref.result.now c.deref_mut.result.now c.deref.ensures c.deref_mut.ensures.value c.lock-core.ensures.root c.lock-core.ensures.begins c.lock-core.ensures.own c.log-before.ensures.core c.lock-core.ensures.seat in
    own_lock g.I.Instance.wants g.I.Instance.same_datum c.args.turn.now c.args.seat.now i.seat i.number i.aside.sight i.aside.count k.events.items k.ask i.spent c.seat.view_is c.seat.invariant c.requires.own c.deref_mut.result.now x.0 x.1 x.2 x.3 c.hand_in-done.new.core [] c.hand_in-done.new.aside.kept.events.items c.hand_in-done.new.aside.kept.ask c.hand_in-done.ensures.gains c.hand_in-done.ensures.core c.lock-core.new.seat x.4

pub give-requires-clause-inside : goal.give-requires-clause-inside
give-requires-clause-inside g c =
    let i = c.seat.inside in
    let k = i.aside.kept in
    let x = taken_as g.I.Instance.wants g.I.Instance.same_datum c.args.turn.now i.seat c.lock-core.new.seat c.lock-core.result.core.value c.deref.result.now c.deref_mut.result.now c.deref.ensures c.deref_mut.ensures.value c.lock-core.ensures.root c.lock-core.ensures.begins c.lock-core.ensures.own c.log-before.ensures.core c.lock-core.ensures.seat in
    inside_lock g.I.Instance.wants g.I.Instance.same_datum c.args.turn.now c.args.seat.now i.seat i.number i.aside.sight i.aside.count k.events.items k.ask i.spent c.seat.view_is c.seat.invariant c.requires.own c.deref_mut.result.now x.0 x.1 x.2 x.3 c.hand_in-done.new.core [] c.hand_in-done.new.aside.kept.events.items c.hand_in-done.new.aside.kept.ask c.hand_in-done.ensures.gains c.hand_in-done.ensures.core c.lock-core.new.seat x.4 c.if-seat.false

pub give-requires-clause-root : goal.give-requires-clause-root
give-requires-clause-root g c =
    let i = c.seat.inside in
    let k = i.aside.kept in
    let x = taken_as g.I.Instance.wants g.I.Instance.same_datum c.args.turn.now i.seat c.lock-core.new.seat c.lock-core.result.core.value c.deref.result.now c.deref_mut.result.now c.deref.ensures c.deref_mut.ensures.value c.lock-core.ensures.root c.lock-core.ensures.begins c.lock-core.ensures.own c.log-before.ensures.core c.lock-core.ensures.seat in
    root_stays g.I.Instance.wants g.I.Instance.same_datum c.args.turn.now c.args.seat.now i.seat i.number i.aside.sight i.aside.count k.events.items k.ask i.spent c.seat.view_is c.seat.invariant c.requires.own c.deref_mut.result.now x.0 x.1 x.2 x.3 c.hand_in-done.new.core [] c.hand_in-done.new.aside.kept.events.items c.hand_in-done.new.aside.kept.ask c.hand_in-done.ensures.gains c.hand_in-done.ensures.core c.lock-core.new.seat x.4

pub give-requires-clause-before : goal.give-requires-clause-before
give-requires-clause-before g c =
    let i = c.seat.inside in
    let k = i.aside.kept in
    let x = taken_as g.I.Instance.wants g.I.Instance.same_datum c.args.turn.now i.seat c.lock-core.new.seat c.lock-core.result.core.value c.deref.result.now c.deref_mut.result.now c.deref.ensures c.deref_mut.ensures.value c.lock-core.ensures.root c.lock-core.ensures.begins c.lock-core.ensures.own c.log-before.ensures.core c.lock-core.ensures.seat in
    before_is g.I.Instance.wants g.I.Instance.same_datum c.args.turn.now c.args.seat.now i.seat i.number i.aside.sight i.aside.count k.events.items k.ask i.spent c.seat.view_is c.seat.invariant c.requires.own c.deref_mut.result.now x.0 x.1 x.2 x.3 c.hand_in-done.new.core [] c.hand_in-done.new.aside.kept.events.items c.hand_in-done.new.aside.kept.ask c.hand_in-done.ensures.gains c.hand_in-done.ensures.core c.lock-core.new.seat x.4 (length c.log-before.result.now) (ap length (c.log-before.ensures.log ∙ ap (λ c. c.log) (c.deref.ensures ∙ sym c.deref_mut.ensures.value)))

pub give-requires-clause-more : goal.give-requires-clause-more
give-requires-clause-more g c =
    let i = c.seat.inside in
    let k = i.aside.kept in
    let x = taken_as g.I.Instance.wants g.I.Instance.same_datum c.args.turn.now i.seat c.lock-core.new.seat c.lock-core.result.core.value c.deref.result.now c.deref_mut.result.now c.deref.ensures c.deref_mut.ensures.value c.lock-core.ensures.root c.lock-core.ensures.begins c.lock-core.ensures.own c.log-before.ensures.core c.lock-core.ensures.seat in
    more_there g.I.Instance.wants g.I.Instance.same_datum c.args.turn.now c.args.seat.now i.seat i.number i.aside.sight i.aside.count k.events.items k.ask i.spent c.seat.view_is c.seat.invariant c.requires.own c.deref_mut.result.now x.0 x.1 x.2 x.3 c.hand_in-done.new.core [] c.hand_in-done.new.aside.kept.events.items c.hand_in-done.new.aside.kept.ask c.hand_in-done.ensures.gains c.hand_in-done.ensures.core c.lock-core.new.seat x.4

pub invariant_of-seat : goal.invariant_of-seat
invariant_of-seat g c =
    let i = c.seat.inside in
    let k = i.aside.kept in
    let x = taken_as g.I.Instance.wants g.I.Instance.same_datum c.args.turn.now i.seat c.lock-core.new.seat c.lock-core.result.core.value c.deref.result.now c.deref_mut.result.now c.deref.ensures c.deref_mut.ensures.value c.lock-core.ensures.root c.lock-core.ensures.begins c.lock-core.ensures.own c.log-before.ensures.core c.lock-core.ensures.seat in
    seat_again g.I.Instance.wants g.I.Instance.same_datum c.args.turn.now c.args.seat.now i.seat i.number i.aside.sight i.aside.count k.events.items k.ask i.spent c.seat.view_is c.seat.invariant c.requires.own c.deref_mut.result.now x.0 x.1 x.2 x.3 c.hand_in-done.new.core [] c.hand_in-done.new.aside.kept.events.items c.hand_in-done.new.aside.kept.ask c.hand_in-done.ensures.gains c.hand_in-done.ensures.core c.lock-core.new.seat x.4 c.give.new.seat c.give.ensures c.hand_in-done.new.aside.count c.hand_in-done.ensures.count c.hand_in-done.new.aside.sight c.hand_in-done.ensures.sight c.is_err-seat-inside.result (hands_by g.I.Instance.wants g.I.Instance.same_datum c.args.turn.now c.args.seat.now i.seat i.number i.aside.sight i.aside.count k.events.items k.ask i.spent c.seat.view_is c.seat.invariant c.requires.own c.deref_mut.result.now x.0 x.1 x.2 x.3 c.hand_in-done.new.core [] c.hand_in-done.new.aside.kept.events.items c.hand_in-done.new.aside.kept.ask c.hand_in-done.ensures.gains c.hand_in-done.ensures.core c.lock-core.new.seat x.4 c.give.new.seat c.give.ensures c.hand_in-done.result c.hand_in-done.ensures.none refl (is_some k.events.items c.is_empty.result (vec_len k.events) k.events.ok.0 c.is_empty.ensures c.if-is_empty.false) c.is_err-seat-inside.result c.is_err-seat-inside.ensures.value)

pub returns-clause-ok : goal.returns-clause-ok
returns-clause-ok g c =
    let i = c.seat.inside in
    let k = i.aside.kept in
    let x = taken_as g.I.Instance.wants g.I.Instance.same_datum c.args.turn.now i.seat c.lock-core.new.seat c.lock-core.result.core.value c.deref.result.now c.deref_mut.result.now c.deref.ensures c.deref_mut.ensures.value c.lock-core.ensures.root c.lock-core.ensures.begins c.lock-core.ensures.own c.log-before.ensures.core c.lock-core.ensures.seat in
    c.hand_in-done.ensures.none

pub returns-clause-same : goal.returns-clause-same
returns-clause-same g c =
    let i = c.seat.inside in
    let k = i.aside.kept in
    let x = taken_as g.I.Instance.wants g.I.Instance.same_datum c.args.turn.now i.seat c.lock-core.new.seat c.lock-core.result.core.value c.deref.result.now c.deref_mut.result.now c.deref.ensures c.deref_mut.ensures.value c.lock-core.ensures.root c.lock-core.ensures.begins c.lock-core.ensures.own c.log-before.ensures.core c.lock-core.ensures.seat in
    (mine_again g.I.Instance.wants g.I.Instance.same_datum c.args.turn.now c.args.seat.now i.seat i.number i.aside.sight i.aside.count k.events.items k.ask i.spent c.seat.view_is c.seat.invariant c.requires.own c.deref_mut.result.now x.0 x.1 x.2 x.3 c.hand_in-done.new.core [] c.hand_in-done.new.aside.kept.events.items c.hand_in-done.new.aside.kept.ask c.hand_in-done.ensures.gains c.hand_in-done.ensures.core c.lock-core.new.seat x.4 c.give.new.seat c.give.ensures ∙ append-nil _, ap (λ s. s.number) c.seat.view_is)

pub returns-clause-seat : goal.returns-clause-seat
returns-clause-seat g c =
    let i = c.seat.inside in
    let k = i.aside.kept in
    let x = taken_as g.I.Instance.wants g.I.Instance.same_datum c.args.turn.now i.seat c.lock-core.new.seat c.lock-core.result.core.value c.deref.result.now c.deref_mut.result.now c.deref.ensures c.deref_mut.ensures.value c.lock-core.ensures.root c.lock-core.ensures.begins c.lock-core.ensures.own c.log-before.ensures.core c.lock-core.ensures.seat in
    at_again g.I.Instance.wants g.I.Instance.same_datum c.args.turn.now c.args.seat.now i.seat i.number i.aside.sight i.aside.count k.events.items k.ask i.spent c.seat.view_is c.seat.invariant c.requires.own c.deref_mut.result.now x.0 x.1 x.2 x.3 c.hand_in-done.new.core [] c.hand_in-done.new.aside.kept.events.items c.hand_in-done.new.aside.kept.ask c.hand_in-done.ensures.gains c.hand_in-done.ensures.core c.lock-core.new.seat x.4 c.give.new.seat c.give.ensures c.is_err-seat-inside.result
