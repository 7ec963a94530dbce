use Rattle.sg_board.proofs.Laid.{all_back, in_order}
use Rattle.sg_board.proofs.places.Places.into_tasks.Goals as goal

pub gather_up-requires-clause-back : goal.gather_up-requires-clause-back
gather_up-requires-clause-back g c = all_back g.T.Task.number g.T.Task.total c.args.self.places.items c.args.self.placed c.args.self.sized c.requires.back

pub returns : goal.returns
returns g c = in_order g.T.Task.number g.T.Task.total c.gather_up.result.items c.args.self.places.items c.gather_up.ensures c.args.self.placed c.args.self.sized
