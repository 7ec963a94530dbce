use Rattle.sg_board.specs.Shares.{ShareMoves}
use Rattle.sg_board.proofs.share.Share.next.Given as goal

abbrev pub invariant-loop-look : goal.invariant-loop-look
invariant-loop-look g l = ShareMoves g.T.Task.number l.fn.self l.self (λ h. 0) (λ h. 0)
