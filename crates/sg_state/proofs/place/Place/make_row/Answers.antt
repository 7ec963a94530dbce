use Rattle.sg_state.specs.Rows.{rows_of}
use Rattle.sg_state.proofs.PlaceRows.{made_same, made_there, made_place, kept_same}
use Rattle.sg_state.proofs.ShortRows.{row_there}
use Rattle.sg_state.proofs.place.Place.make_row.Goals as goal

pub returns-in-Some-clause-ok : goal.returns-in-Some-clause-ok
returns-in-Some-clause-ok g c = rw (← c.self.view_is) (row_there c.self.inside.rows c.args.label c.in-Some._at c.in-Some.ensures.found)

pub returns-in_ok-insert-in-None-clause-ok : goal.returns-in_ok-insert-in-None-clause-ok
returns-in_ok-insert-in-None-clause-ok g c =
    let ok = rw (← c.self.view_is) at c.requires.place in
    rw (c.in_ok-insert-in-None.ensures.ok, c.new.ensures, c.new-in-None.ensures) (made_there (rows_of c.self.inside.rows) c.self.inside.slot ok c.args.label c.in-None.ensures.none)

pub returns-in_ok-insert-in-None-clause-same : goal.returns-in_ok-insert-in-None-clause-same
returns-in_ok-insert-in-None-clause-same g c =
    let ok = rw (← c.self.view_is) at c.requires.place in
    rw (c.in_ok-insert-in-None.ensures.ok, c.new.ensures, c.new-in-None.ensures, ← c.self.view_is) (made_same (rows_of c.self.inside.rows) c.self.inside.slot ok c.args.label c.in-None.ensures.none)

pub returns-in_ok-insert-in-None-clause-place : goal.returns-in_ok-insert-in-None-clause-place
returns-in_ok-insert-in-None-clause-place g c =
    let ok = rw (← c.self.view_is) at c.requires.place in
    rw (c.in_ok-insert-in-None.ensures.ok, c.new.ensures, c.new-in-None.ensures) (made_place (rows_of c.self.inside.rows) c.self.inside.slot ok c.args.label c.in-None.ensures.none c.requires.labelled)

pub returns-in_err-insert-in-None-clause-same : goal.returns-in_err-insert-in-None-clause-same
returns-in_err-insert-in-None-clause-same g c = rw (c.in_err-insert-in-None.ensures.err, c.self.view_is) (kept_same c.args.self.now)

pub returns-in_err-insert-in-None-clause-place : goal.returns-in_err-insert-in-None-clause-place
returns-in_err-insert-in-None-clause-place g c = rw (c.in_err-insert-in-None.ensures.err, c.self.view_is) c.requires.place
