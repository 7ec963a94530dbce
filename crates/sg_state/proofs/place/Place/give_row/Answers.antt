use Rattle.sg_state.proofs.Making.{keeps_then_adds}
use Rattle.sg_state.proofs.place.Place.give_row.Goals as goal

pub returns-clause-ok : goal.returns-clause-ok
returns-clause-ok g c = keeps_then_adds c.args.self.now c.make_row.new.self c.add_holder.new.self c.args.label c.args.unit c.in_ok-make_row.ensures.same c.in_ok-add_holder.ensures.ok
