use Rattle.std.proofs.Common.{◌≡◌}
use Rattle.sg_board.proofs.workers.run_on.Given as goal

abbrev pub invariant-loop : goal.invariant-loop
invariant-loop g l = g.T.Task.number l.task ≡ g.T.Task.number l.fn.task
