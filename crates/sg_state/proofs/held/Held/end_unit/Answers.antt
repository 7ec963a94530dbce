use Rattle.sg_state.specs.Part.{rest_in}
use Rattle.sg_state.proofs.Keeping.{held_from}
use Rattle.sg_state.proofs.Ending.{unit_ended, ended_kept, ended_parts}
use Rattle.sg_state.proofs.held.Held.end_unit.Goals as goal

pub invariant_of-self : goal.invariant_of-self
invariant_of-self g c =
    let es = c.self.inside.places.entries in
    let new = c.leave_all.new.places.entries in
    let made = c.self.inside.made.items in
    let lists = c.self.inside.lists.entries in (
      ended_kept es new made lists c.self.invariant.0 c.listed-list.result.now c.args.unit c.listed-list.ensures c.leave_all.ensures,
      ended_parts es new made lists c.self.invariant.0 c.listed-list.result.now c.args.unit c.listed-list.ensures c.leave_all.ensures _ c.self.inside.parts.entries c.self.invariant.1,
    )

pub returns-clause-ended : goal.returns-clause-ended
returns-clause-ended g c =
    rw (← c.self.view_is) (unit_ended c.self.inside.places.entries c.leave_all.new.places.entries c.self.inside.made.items c.self.inside.lists.entries c.self.invariant.0 c.listed-list.result.now c.args.unit c.listed-list.ensures c.leave_all.ensures (rest_in c.self.inside.parts.entries))

pub returns-clause-sound : goal.returns-clause-sound
returns-clause-sound g c =
    let kept = invariant_of-self g c in
    held_from c.leave_all.new.places.entries c.self.inside.made.items c.self.inside.lists.entries kept.0 _ c.self.inside.parts.entries kept.1
