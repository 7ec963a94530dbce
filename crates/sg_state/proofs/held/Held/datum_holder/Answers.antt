use Rattle.sg_state.specs.Part.{rest_in}
use Rattle.std.proofs.Common.{sym, ◌∙◌}
use Rattle.sg_state.proofs.Finding.{slot_waits, slot_not_unset, none_unset}
use Rattle.sg_state.proofs.Keeping.{held_from}
use Rattle.sg_state.proofs.held.Held.datum_holder.Goals as goal

pub returns-in-Some-Waits-clause-found : goal.returns-in-Some-Waits-clause-found
returns-in-Some-Waits-clause-found g c = rw (← c.self.view_is) (slot_waits c.self.inside.places.entries c.self.inside.made.items (rest_in c.self.inside.parts.entries) c.args.s c.in-Some-Waits.field-0.now _ c.in-Some-Waits.ensures.found c.in-Some-Waits.field-0-is)

pub returns-in-Some-Given-clause-none : goal.returns-in-Some-Given-clause-none
returns-in-Some-Given-clause-none g c = rw (← c.self.view_is) (slot_not_unset c.self.inside.places.entries c.self.inside.made.items (rest_in c.self.inside.parts.entries) c.args.s (c.self.invariant.0).places c.in-Some-Given.field-0.now c.in-Some-Given.ensures.found (λ u e. (let k = sym c.in-Some-Given.field-0-is ∙ e in cc)))

pub returns-in-Some-Empty-clause-none : goal.returns-in-Some-Empty-clause-none
returns-in-Some-Empty-clause-none g c = rw (← c.self.view_is) (slot_not_unset c.self.inside.places.entries c.self.inside.made.items (rest_in c.self.inside.parts.entries) c.args.s (c.self.invariant.0).places c.in-Some-Empty.field-0.now c.in-Some-Empty.ensures.found (λ u e. (let k = sym c.in-Some-Empty.field-0-is ∙ e in cc)))

pub returns-in-None-clause-none : goal.returns-in-None-clause-none
returns-in-None-clause-none g c = rw (← c.self.view_is) (none_unset c.self.inside.places.entries c.self.inside.made.items (rest_in c.self.inside.parts.entries) c.args.s c.in-None.ensures.none)

pub returns-in-Some-Waits-clause-sound : goal.returns-in-Some-Waits-clause-sound
returns-in-Some-Waits-clause-sound g c = rw (← c.self.view_is) (held_from c.self.inside.places.entries c.self.inside.made.items c.self.inside.lists.entries c.self.invariant.0 _ c.self.inside.parts.entries c.self.invariant.1)

pub returns-in-Some-Given-clause-sound : goal.returns-in-Some-Given-clause-sound
returns-in-Some-Given-clause-sound g c = rw (← c.self.view_is) (held_from c.self.inside.places.entries c.self.inside.made.items c.self.inside.lists.entries c.self.invariant.0 _ c.self.inside.parts.entries c.self.invariant.1)

pub returns-in-Some-Empty-clause-sound : goal.returns-in-Some-Empty-clause-sound
returns-in-Some-Empty-clause-sound g c = rw (← c.self.view_is) (held_from c.self.inside.places.entries c.self.inside.made.items c.self.inside.lists.entries c.self.invariant.0 _ c.self.inside.parts.entries c.self.invariant.1)

pub returns-in-None-clause-sound : goal.returns-in-None-clause-sound
returns-in-None-clause-sound g c = rw (← c.self.view_is) (held_from c.self.inside.places.entries c.self.inside.made.items c.self.inside.lists.entries c.self.invariant.0 _ c.self.inside.parts.entries c.self.invariant.1)
