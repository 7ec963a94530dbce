use Rattle.crossbeam_queue.specs.Passes.{view}
use Rattle.sg_board.proofs.Weights.{gives, no_room}
use Rattle.sg_board.proofs.lock.give.Goals as goal

pub push_as-given-requires-clause-rule : goal.push_as-given-requires-clause-rule
push_as-given-requires-clause-rule g c = (gives g.B.TaskHolder.numbers _ _ (view c.args.pass.now) c.args.board c.requires.pass.1, no_room g.B.TaskHolder.numbers _ (view c.args.pass.now))
