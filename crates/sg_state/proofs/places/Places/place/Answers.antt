use Rattle.std.proofs.Common.{Some, None, sym}
use Rattle.sg_state.proofs.InOrder.{place_here}
use Rattle.sg_state.proofs.places.Places.place.Goals as goal

pub returns-in-Some : goal.returns-in-Some
returns-in-Some g c = place_here c.self.inside.found.all.items c.self.invariant.0 c.args.self.now c.self.view_is c.args.s (Some (c.index.result.now).1) (sym (c.in-Some.ensures.found.found c.index.result.now c.index.ensures))

pub returns-in-None : goal.returns-in-None
returns-in-None g c = place_here c.self.inside.found.all.items c.self.invariant.0 c.args.self.now c.self.view_is c.args.s None (sym c.in-None.ensures.none)
