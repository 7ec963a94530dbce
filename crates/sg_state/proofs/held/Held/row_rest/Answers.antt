use Rattle.sg_state.proofs.Keeping.{held_from, rest_exact}
use Rattle.sg_state.proofs.held.Held.row_rest.Goals as goal

pub returns-clause-exact : goal.returns-clause-exact
returns-clause-exact g c =
    rw (← c.self.view_is, ← c.number.ensures.value) (rest_exact c.self.inside.places.entries c.self.inside.made.items c.self.inside.lists.entries c.self.invariant.0 _ c.self.inside.parts.entries c.self.invariant.1 c.args.s c.number.result c.targets.result.now c.targets.ensures.exact)

pub returns-clause-sound : goal.returns-clause-sound
returns-clause-sound g c = rw (← c.self.view_is) (held_from c.self.inside.places.entries c.self.inside.made.items c.self.inside.lists.entries c.self.invariant.0 _ c.self.inside.parts.entries c.self.invariant.1)
