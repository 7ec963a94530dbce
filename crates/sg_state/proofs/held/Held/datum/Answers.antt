use Rattle.sg_state.specs.Part.{rest_in}
use Rattle.std.proofs.Common.{sym, ◌∙◌}
use Rattle.sg_state.proofs.Extending.{unset_to}
use Rattle.sg_state.proofs.Finding.{slot_waits, slot_given, slot_not_unset, slot_not_given, none_unset, none_given}
use Rattle.sg_state.specs.View.{seen}
use Rattle.sg_state.proofs.held.Held.datum.Goals as goal

pub returns-in-Some-Given : goal.returns-in-Some-Given
returns-in-Some-Given g c = rw (← c.self.view_is) (slot_given c.self.inside.places.entries c.self.inside.made.items (rest_in c.self.inside.parts.entries) c.args.s c.in-Some-Given.field-0.now _ c.in-Some-Given.ensures.found c.in-Some-Given.field-0-is)

pub returns-in-Some-Waits : goal.returns-in-Some-Waits
returns-in-Some-Waits g c = rw (← c.self.view_is) (unset_to (seen c.self.inside.places.entries c.self.inside.made.items (rest_in c.self.inside.parts.entries)) c.in-Some-Waits.field-0-0 c.args.s (slot_waits c.self.inside.places.entries c.self.inside.made.items (rest_in c.self.inside.parts.entries) c.args.s c.in-Some-Waits.field-0.now _ c.in-Some-Waits.ensures.found c.in-Some-Waits.field-0-is))

pub returns-in-Some-Empty : goal.returns-in-Some-Empty
returns-in-Some-Empty g c = rw (← c.self.view_is) (
  slot_not_unset c.self.inside.places.entries c.self.inside.made.items (rest_in c.self.inside.parts.entries) c.args.s (c.self.invariant.0).places c.in-Some-Empty.field-0.now c.in-Some-Empty.ensures.found (λ u e. (let k = sym c.in-Some-Empty.field-0-is ∙ e in cc)),
  slot_not_given c.self.inside.places.entries c.self.inside.made.items (rest_in c.self.inside.parts.entries) c.args.s (c.self.invariant.0).places c.in-Some-Empty.field-0.now c.in-Some-Empty.ensures.found (λ d e. (let k = sym c.in-Some-Empty.field-0-is ∙ e in cc)),
)

pub returns-in-None : goal.returns-in-None
returns-in-None g c = rw (← c.self.view_is) (none_unset c.self.inside.places.entries c.self.inside.made.items (rest_in c.self.inside.parts.entries) c.args.s c.in-None.ensures.none, none_given c.self.inside.places.entries c.self.inside.made.items (rest_in c.self.inside.parts.entries) c.args.s c.in-None.ensures.none)
