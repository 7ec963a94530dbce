use Rattle.std.proofs.Common.{[], ◌+◌, map, take, get_or}
use Rattle.sg_state.specs.Held.{DatumHold}
use Rattle.sg_state.specs.Opening.{held_datum_of}
use Rattle.sg_state.proofs.Giving.{gives_datum, one_more_map, at_place_map, new_image, noted_more, datum_ready}
use Rattle.sg_state.proofs.opened.add_datum_holds.Goals as goal

pub set_slot-requires-clause-there : goal.set_slot-requires-clause-there
set_slot-requires-clause-there g c =
    let list = c.args.list.now in
    let i = c.loop-unit.unit-index in
    let x = get_or list i (0, record { unit = 0; serial = 0 }) in
    let ready = datum_ready c.args.places.now.entries c.loop-unit.places.entries list i x c.loop-unit.invariant.0 (c.requires.empty (held_datum_of x) (at_place_map held_datum_of list i _ c.loop-unit-test.true)) (new_image (λ k. k.1) list i _ c.loop-unit-test.true c.requires.distinct) in
    (ready.0, ready.1)

pub loop-unit-preserved : goal.loop-unit-preserved
loop-unit-preserved g c =
    let list = c.args.list.now in
    let i = c.loop-unit.unit-index in
    let x = get_or list i (0, record { unit = 0; serial = 0 }) in
    let ready = datum_ready c.args.places.now.entries c.loop-unit.places.entries list i x c.loop-unit.invariant.0 (c.requires.empty (held_datum_of x) (at_place_map held_datum_of list i _ c.loop-unit-test.true)) (new_image (λ k. k.1) list i _ c.loop-unit-test.true c.requires.distinct) in
    let done = map held_datum_of (take i list) in
    let more = map held_datum_of (take (i + 1) list) in
    let next = one_more_map held_datum_of list i (0, record { unit = 0; serial = 0 }) c.loop-unit-test.true in (
      gives_datum c.args.places.now.entries c.loop-unit.places.entries c.set_slot.new.self.entries [] [] [] done x.1 c.loop-unit.invariant.0 x.0 more next c.set_slot.ensures ready,
      noted_more (λ (k : DatumHold). k.unit) (λ (k : DatumHold). k.scope) done more (held_datum_of x) next c.loop-unit.units.entries c.note.new.lists.entries c.in_ok-note.ensures.kept c.in_ok-note.ensures.ok c.loop-unit.invariant.1,
      (λ u s h. c.in_ok-note.ensures.kept u s (c.loop-unit.invariant.2 u s h)),
      c.in_ok-note.ensures.rising,
    )
