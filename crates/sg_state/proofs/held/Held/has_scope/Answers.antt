use Rattle.sg_state.specs.Part.{rest_in}
use Rattle.sg_state.proofs.Finding.{scope_is}
use Rattle.sg_state.proofs.held.Held.has_scope.Goals as goal

pub returns : goal.returns
returns g c = rw (← c.self.view_is, c.is_some.ensures) (scope_is c.self.inside.places.entries c.self.inside.made.items (rest_in c.self.inside.parts.entries) c.args.s c.slot.result c.slot.ensures.found c.slot.ensures.none)
