use Rattle.std.proofs.Common.{◌≡◌}
use Rattle.sg_board.specs.Shares.{ShareMoves}
use Rattle.sg_board.proofs.share.Share.lay.Given as goal

abbrev pub invariant-loop : goal.invariant-loop
invariant-loop g l = record {
  task : l.task ≡ l.fn.task;
  moves : ShareMoves g.T.Task.number l.fn.self l.self (λ h. 0) (λ h. 0);
}
