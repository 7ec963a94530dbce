use Rattle.sg_state.proofs.InOrder.{entries_held}
use Rattle.sg_state.proofs.places.Places.all.Goals as goal

pub returns-clause-exact : goal.returns-clause-exact
returns-clause-exact g c = rw c.as_slice.ensures.value (entries_held c.self.inside.found.all.items c.self.invariant.0 c.args.self.now c.self.view_is (record { unit = 0; serial = 0 }))
