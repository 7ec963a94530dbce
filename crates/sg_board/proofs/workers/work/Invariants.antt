use Rattle.crossbeam_queue.specs.Passes.{IsPassOf}
use Rattle.sg_board.specs.Shares.{HandMoves}
use Rattle.sg_board.proofs.workers.work.Given as goal

abbrev pub invariant-loop : goal.invariant-loop
invariant-loop g l = record {
  pass : IsPassOf l.lock l.hand.pass;
  moves : HandMoves g.T.Task.number l.fn.hand l.hand (λ h. 0) (λ h. 0);
}
