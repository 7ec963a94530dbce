use Rattle.std.proofs.Common.{refl, ◌∙◌}
use Rattle.sg_state.specs.Rows.{rows_of}
use Rattle.sg_state.specs.declared.row.Row.{Row}
use Rattle.sg_state.proofs.PlaceRows.{holder_lost, holder_absent, changed_place, targets_at}
use Rattle.sg_state.proofs.place.Place.remove_holder.Goals as goal

pub returns-in-Some-clause-gone : goal.returns-in-Some-clause-gone
returns-in-Some-clause-gone g c =
    let ok = rw (← c.self.view_is) at c.requires.place in
    let old = c.row_mut.result.now in
    let new : Row = record { targets = old.targets; holders = c.remove.new.self } in
    let here = c.in-Some.ensures.found.found ∙ c.row_mut.ensures.value in
    rw (c.in-Some.ensures.found.written new, ← c.self.view_is)
    (holder_lost (rows_of c.self.inside.rows) c.self.inside.slot ok c.args.label old new here c.args.unit c.remove.ensures.left refl)

pub returns-in-Some-clause-place : goal.returns-in-Some-clause-place
returns-in-Some-clause-place g c =
    let ok = rw (← c.self.view_is) at c.requires.place in
    let old = c.row_mut.result.now in
    let new : Row = record { targets = old.targets; holders = c.remove.new.self } in
    let here = c.in-Some.ensures.found.found ∙ c.row_mut.ensures.value in
    rw (c.in-Some.ensures.found.written new)
    (changed_place (rows_of c.self.inside.rows) c.self.inside.slot ok c.args.label old new here (targets_at (rows_of c.self.inside.rows) c.self.inside.slot ok c.args.label old here) c.remove.ensures.rising)

pub returns-in-None-clause-gone : goal.returns-in-None-clause-gone
returns-in-None-clause-gone g c =
    let ok = rw (← c.self.view_is) at c.requires.place in
    rw (← c.self.view_is) (holder_absent (rows_of c.self.inside.rows) c.self.inside.slot ok c.args.label c.args.unit c.in-None.ensures.none)
