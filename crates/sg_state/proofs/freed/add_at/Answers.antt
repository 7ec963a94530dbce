use Rattle.std.proofs.Common.{[], ◌∷◌}
use Rattle.sg_state.specs.Freed.{IsFreeBelow, IsFreeSlot, IsFreeRow, IsFreeDatum, holds_of}
use Rattle.sg_state.proofs.FreeNeeds.{adds_none, adds_same, place_is, rows_free, datum_free, no_row_free, no_datum_free}
use Rattle.sg_state.proofs.freed.add_at.Goals as goal

pub add_rows-requires-clause-place : goal.add_rows-requires-clause-place
add_rows-requires-clause-place g c = place_is c.args.places.now.entries c.args.unit c.args.s c.requires.places c.in-Some.place.now c.in-Some.ensures

pub returns-in_ok-add_datum-in-Some-clause-rows : goal.returns-in_ok-add_datum-in-Some-clause-rows
returns-in_ok-add_datum-in-Some-clause-rows g c =
    let es = c.args.places.now.entries in
    adds_same c.args.rows.now.items c.add_rows.new.needs.items (IsFreeBelow c.in-Some.place.now c.args.unit c.args.s 16) (IsFreeRow (holds_of es) c.args.unit (c.args.s ∷ [])) c.in_ok-add_rows-in-Some.ensures.ok
    (rows_free es c.args.unit c.args.s c.requires.places c.in-Some.place.now c.in-Some.ensures)

pub returns-in_ok-add_datum-in-Some-clause-unset : goal.returns-in_ok-add_datum-in-Some-clause-unset
returns-in_ok-add_datum-in-Some-clause-unset g c =
    let es = c.args.places.now.entries in
    adds_same c.args.unset.now.items c.add_datum.new.needs.items (IsFreeSlot c.in-Some.place.now c.args.unit c.args.s) (IsFreeDatum (holds_of es) c.args.unit (c.args.s ∷ [])) c.in_ok-add_datum-in-Some.ensures.ok
    (datum_free es c.args.unit c.args.s c.requires.places c.in-Some.place.now c.in-Some.ensures)

pub returns-in-None-clause-rows : goal.returns-in-None-clause-rows
returns-in-None-clause-rows g c =
    let free = IsFreeRow (holds_of c.args.places.now.entries) c.args.unit (c.args.s ∷ []) in
    adds_none c.args.rows.now.items [] free free c.requires.rows_rise (no_row_free c.args.places.now.entries c.args.unit c.args.s c.in-None.ensures)

pub returns-in-None-clause-unset : goal.returns-in-None-clause-unset
returns-in-None-clause-unset g c =
    let free = IsFreeDatum (holds_of c.args.places.now.entries) c.args.unit (c.args.s ∷ []) in
    adds_none c.args.unset.now.items [] free free c.requires.unset_rise (no_datum_free c.args.places.now.entries c.args.unit c.args.s c.in-None.ensures)
