use Rattle.sg_state.specs.Part.{rest_in}
use Rattle.sg_state.proofs.Keeping.{held_from}
use Rattle.sg_state.proofs.Views.{hold_from}
use Rattle.sg_state.proofs.Writing.{row_closed, close_kept, close_parts}
use Rattle.sg_state.proofs.held.Held.close_row.Goals as goal

pub remove_holder-requires-clause-there : goal.remove_holder-requires-clause-there
remove_holder-requires-clause-there g c =
    let holds = rw (← c.self.view_is) at c.requires.holds in
    let h = hold_from c.self.inside.places.entries c.args.s c.args.l c.args.unit holds in
    (h.0, h.1)

pub invariant_of-self : goal.invariant_of-self
invariant_of-self g c =
    let es = c.self.inside.places.entries in
    let new = c.remove_holder.new.self.entries in
    let made = c.self.inside.made.items in
    let places = (c.self.invariant.0).places in (
      close_kept es new made c.args.s places c.self.inside.lists.entries c.self.invariant.0 c.number-label.result c.args.unit c.remove_holder.ensures,
      close_parts es new made c.args.s places _ c.self.inside.parts.entries c.self.invariant.1 c.number-label.result c.args.unit c.remove_holder.ensures,
    )

pub returns-clause-closed : goal.returns-clause-closed
returns-clause-closed g c =
    rw (← c.self.view_is, ← c.number-label.ensures.value) (row_closed c.self.inside.places.entries c.remove_holder.new.self.entries c.self.inside.made.items c.args.s (c.self.invariant.0).places (rest_in c.self.inside.parts.entries) c.number-label.result c.args.unit c.remove_holder.ensures)

pub returns-clause-sound : goal.returns-clause-sound
returns-clause-sound g c =
    let kept = invariant_of-self g c in
    held_from c.remove_holder.new.self.entries c.self.inside.made.items c.self.inside.lists.entries kept.0 _ c.self.inside.parts.entries kept.1
