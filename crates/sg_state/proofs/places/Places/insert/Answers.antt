use Rattle.sg_state.proofs.InOrder.{order_rises, none_here, once_more, place_added}
use Rattle.sg_state.proofs.places.Places.insert.Goals as goal

pub insert-requires-clause-new : goal.insert-requires-clause-new
insert-requires-clause-new g c = none_here c.self.inside.found.all.items c.self.invariant.0 c.args.self.now c.self.view_is c.args.s c.requires.new c.args.place

pub invariant_of-self-2 : goal.invariant_of-self-2
invariant_of-self-2 g c = (
  rw c.in_ok-insert.ensures.ok (once_more c.self.inside.found.all.items c.self.invariant.0 c.args.self.now c.self.view_is c.args.s c.requires.new c.args.place),
  c.in_ok-insert.ensures.indexed,
)

pub returns-clause-entries : goal.returns-clause-entries
returns-clause-entries g c = rw c.in_ok-insert.ensures.ok (place_added c.self.inside.found.all.items c.self.invariant.0 c.args.self.now c.self.view_is c.args.s c.requires.new c.args.place)

pub returns-clause-ordered : goal.returns-clause-ordered
returns-clause-ordered g c = order_rises c.insert.new.self.all.items (invariant_of-self-2 g c).0
