use Rattle.std.proofs.Common.{refl, ap, ◌∙◌}
use Rattle.sg_state.specs.Rows.{rows_of}
use Rattle.sg_state.specs.declared.row.Row.{Row}
use Rattle.sg_state.proofs.PlaceRows.{holder_added, changed_place, targets_at, row_found, set_same}
use Rattle.sg_state.proofs.place.Place.add_holder.Goals as goal

pub returns-in_err-insert-in-Some-clause-place : goal.returns-in_err-insert-in-Some-clause-place
returns-in_err-insert-in-Some-clause-place g c =
    let old = c.row_mut.result.now in
    let new : Row = record { targets = old.targets; holders = c.insert.new.self } in
    let here = c.in-Some.ensures.found.found ∙ c.row_mut.ensures.value in
    let same = ap (λ hs. let r : Row = record { targets = c.row_mut.result.now.targets; holders = hs } in r) c.in_err-insert-in-Some.ensures.err in
    rw (c.in-Some.ensures.found.written new, set_same _ (rows_of c.self.inside.rows) old new here same, c.self.view_is) c.requires.place

pub returns-in_ok-insert-in-Some-clause-ok : goal.returns-in_ok-insert-in-Some-clause-ok
returns-in_ok-insert-in-Some-clause-ok g c =
    let ok = rw (← c.self.view_is) at c.requires.place in
    let old = c.row_mut.result.now in
    let new : Row = record { targets = old.targets; holders = c.insert.new.self } in
    let here = c.in-Some.ensures.found.found ∙ c.row_mut.ensures.value in
    rw (c.in-Some.ensures.found.written new, ← c.self.view_is)
    (holder_added (rows_of c.self.inside.rows) c.self.inside.slot ok c.args.label old new here c.args.unit c.in_ok-insert-in-Some.ensures.ok refl)

pub returns-in_ok-insert-in-Some-clause-place : goal.returns-in_ok-insert-in-Some-clause-place
returns-in_ok-insert-in-Some-clause-place g c =
    let ok = rw (← c.self.view_is) at c.requires.place in
    let old = c.row_mut.result.now in
    let new : Row = record { targets = old.targets; holders = c.insert.new.self } in
    let here = c.in-Some.ensures.found.found ∙ c.row_mut.ensures.value in
    rw (c.in-Some.ensures.found.written new)
    (changed_place (rows_of c.self.inside.rows) c.self.inside.slot ok c.args.label old new here (targets_at (rows_of c.self.inside.rows) c.self.inside.slot ok c.args.label old here) c.in_ok-insert-in-Some.ensures.rising)

pub returns-in-None-clause-ok : goal.returns-in-None-clause-ok
returns-in-None-clause-ok g c =
    let ok = rw (← c.self.view_is) at c.requires.place in
    let there = rw (← c.self.view_is) at c.requires.there in
    absurd (row_found (rows_of c.self.inside.rows) c.self.inside.slot ok c.args.label there c.in-None.ensures.none)
