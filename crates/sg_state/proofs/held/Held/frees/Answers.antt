use Rattle.sg_state.proofs.FreeNeeds.{frees_all}
use Rattle.sg_state.proofs.Keeping.{held_from}
use Rattle.sg_state.proofs.held.Held.frees.Goals as goal

pub returns-clause-rising : goal.returns-clause-rising
returns-clause-rising g c = c.in_ok-needs.ensures.rises

pub returns-clause-exact : goal.returns-clause-exact
returns-clause-exact g c =
    rw (← c.self.view_is) (frees_all c.self.inside.places.entries c.self.inside.made.items c.self.inside.lists.entries c.self.invariant.0 _ c.self.inside.parts.entries c.self.invariant.1 c.args.unit c.in_ok-list.list.items c.in_ok-list.ensures.exact c.in_ok-needs.needs.items (rw c.deref.ensures.value at c.in_ok-needs.ensures))

pub returns-clause-sound : goal.returns-clause-sound
returns-clause-sound g c = rw (← c.self.view_is) (held_from c.self.inside.places.entries c.self.inside.made.items c.self.inside.lists.entries c.self.invariant.0 _ c.self.inside.parts.entries c.self.invariant.1)

pub returns-in_err-list-clause-sound : goal.returns-in_err-list-clause-sound
returns-in_err-list-clause-sound g c = rw (← c.self.view_is) (held_from c.self.inside.places.entries c.self.inside.made.items c.self.inside.lists.entries c.self.invariant.0 _ c.self.inside.parts.entries c.self.invariant.1)

pub returns-in_err-needs-clause-sound : goal.returns-in_err-needs-clause-sound
returns-in_err-needs-clause-sound g c = rw (← c.self.view_is) (held_from c.self.inside.places.entries c.self.inside.made.items c.self.inside.lists.entries c.self.invariant.0 _ c.self.inside.parts.entries c.self.invariant.1)
