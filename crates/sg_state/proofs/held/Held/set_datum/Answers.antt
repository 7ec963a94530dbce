use Rattle.sg_state.specs.Part.{rest_in}
use Rattle.sg_state.proofs.Keeping.{held_from}
use Rattle.sg_state.proofs.Views.{waits_from}
use Rattle.sg_state.proofs.Writing.{datum_written, datum_kept, datum_parts}
use Rattle.sg_state.proofs.held.Held.set_datum.Goals as goal

pub set_slot-requires-clause-there : goal.set_slot-requires-clause-there
set_slot-requires-clause-there g c =
    let holds = rw (← c.self.view_is) at c.requires.holds in
    let h = waits_from c.self.inside.places.entries c.args.s c.args.unit holds in
    (h.0, h.1)

pub invariant_of-self : goal.invariant_of-self
invariant_of-self g c =
    let es = c.self.inside.places.entries in
    let new = c.set_slot.new.self.entries in
    let made = c.self.inside.made.items in
    let places = (c.self.invariant.0).places in
    let holds = rw (← c.self.view_is) at c.requires.holds in (
      datum_kept es new made c.args.s places c.self.inside.lists.entries c.self.invariant.0 c.args.d c.set_slot.ensures,
      datum_parts es new made c.args.s places _ c.self.inside.parts.entries c.self.invariant.1 c.args.unit c.args.d (waits_from es c.args.s c.args.unit holds) c.set_slot.ensures,
    )

pub returns-clause-set : goal.returns-clause-set
returns-clause-set g c =
    let holds = rw (← c.self.view_is) at c.requires.holds in
    rw (← c.self.view_is) (datum_written c.self.inside.places.entries c.set_slot.new.self.entries c.self.inside.made.items c.args.s (c.self.invariant.0).places (rest_in c.self.inside.parts.entries) c.args.unit c.args.d (waits_from c.self.inside.places.entries c.args.s c.args.unit holds) c.set_slot.ensures)

pub returns-clause-sound : goal.returns-clause-sound
returns-clause-sound g c =
    let kept = invariant_of-self g c in
    held_from c.set_slot.new.self.entries c.self.inside.made.items c.self.inside.lists.entries kept.0 _ c.self.inside.parts.entries kept.1
