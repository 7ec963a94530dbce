use Rattle.sg_board.specs.Places.{numbers_at}
use Rattle.sg_board.specs.Shares.{ShareMoves}
use Rattle.sg_board.specs.Weighing.{weigh}
use Rattle.sg_board.proofs.workers.lay_woken.Given as goal

abbrev pub invariant-loop-number : goal.invariant-loop-number
invariant-loop-number g l = ShareMoves g.T.Task.number l.fn.share l.share (λ h. weigh h (numbers_at g.T.Task.number l.fn.board.places.places.items)) (λ h. weigh h (numbers_at g.T.Task.number l.board.places.places.items))
