use Rattle.sg_state.proofs.Giving.{keeps_then_target}
use Rattle.sg_state.proofs.place.Place.give_target.Goals as goal

pub returns-clause-ok : goal.returns-clause-ok
returns-clause-ok g c = keeps_then_target c.args.self.now c.make_row.new.self c.add_target.new.self c.args.label c.args.to c.in_ok-make_row.ensures.same c.in_ok-add_target.ensures.ok
