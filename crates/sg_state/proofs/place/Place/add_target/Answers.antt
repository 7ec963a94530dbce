use Rattle.std.proofs.Common.{refl, ap, ◌∙◌}
use Rattle.sg_base.proofs.Rows.{on_err}
use Rattle.sg_state.specs.Rows.{rows_of}
use Rattle.sg_state.specs.declared.row.Row.{Row}
use Rattle.sg_state.proofs.PlaceRows.{target_added, changed_place, holders_at, row_found, set_same}
use Rattle.sg_state.proofs.place.Place.add_target.Goals as goal

pub returns-in_err-insert-in-Some-clause-err : goal.returns-in_err-insert-in-Some-clause-err
returns-in_err-insert-in-Some-clause-err g c =
    let old = c.row_mut.result.now in
    let new : Row = record { targets = c.insert.new.self; holders = old.holders } in
    let here = c.in-Some.ensures.found.found ∙ c.row_mut.ensures.value in
    let same = ap (λ ts. let r : Row = record { targets = ts; holders = c.row_mut.result.now.holders } in r) c.in_err-insert-in-Some.ensures.err in
    on_err c.from_residual.result (rw (c.in-Some.ensures.found.written new, set_same _ (rows_of c.self.inside.rows) old new here same) c.self.view_is)

pub returns-in_err-insert-in-Some-clause-place : goal.returns-in_err-insert-in-Some-clause-place
returns-in_err-insert-in-Some-clause-place g c =
    let old = c.row_mut.result.now in
    let new : Row = record { targets = c.insert.new.self; holders = old.holders } in
    let here = c.in-Some.ensures.found.found ∙ c.row_mut.ensures.value in
    let same = ap (λ ts. let r : Row = record { targets = ts; holders = c.row_mut.result.now.holders } in r) c.in_err-insert-in-Some.ensures.err in
    rw (c.in-Some.ensures.found.written new, set_same _ (rows_of c.self.inside.rows) old new here same, c.self.view_is) c.requires.place

pub returns-in_ok-insert-in-Some-clause-ok : goal.returns-in_ok-insert-in-Some-clause-ok
returns-in_ok-insert-in-Some-clause-ok g c =
    let ok = rw (← c.self.view_is) at c.requires.place in
    let old = c.row_mut.result.now in
    let new : Row = record { targets = c.insert.new.self; holders = old.holders } in
    let here = c.in-Some.ensures.found.found ∙ c.row_mut.ensures.value in
    rw (c.in-Some.ensures.found.written new, ← c.self.view_is)
    (target_added (rows_of c.self.inside.rows) c.self.inside.slot ok c.args.label old new here c.args.to c.in_ok-insert-in-Some.ensures.ok refl)

pub returns-in_ok-insert-in-Some-clause-place : goal.returns-in_ok-insert-in-Some-clause-place
returns-in_ok-insert-in-Some-clause-place g c =
    let ok = rw (← c.self.view_is) at c.requires.place in
    let old = c.row_mut.result.now in
    let new : Row = record { targets = c.insert.new.self; holders = old.holders } in
    let here = c.in-Some.ensures.found.found ∙ c.row_mut.ensures.value in
    rw (c.in-Some.ensures.found.written new)
    (changed_place (rows_of c.self.inside.rows) c.self.inside.slot ok c.args.label old new here c.in_ok-insert-in-Some.ensures.rising (holders_at (rows_of c.self.inside.rows) c.self.inside.slot ok c.args.label old here))

pub returns-in-None-clause-ok : goal.returns-in-None-clause-ok
returns-in-None-clause-ok g c =
    let ok = rw (← c.self.view_is) at c.requires.place in
    let there = rw (← c.self.view_is) at c.requires.there in
    absurd (row_found (rows_of c.self.inside.rows) c.self.inside.slot ok c.args.label there c.in-None.ensures.none)
