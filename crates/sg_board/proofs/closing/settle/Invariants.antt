use Rattle.std.proofs.Common.{◌≡◌, ◌+◌, ℕ}
use Rattle.sg_board.specs.Places.{numbers_at}
use Rattle.sg_board.specs.Weighing.{weigh}
use Rattle.sg_board.proofs.closing.settle.Given as goal

abbrev pub invariant-loop : goal.invariant-loop
invariant-loop g l = (h : ℕ → ℕ) → h (g.T.Task.number l.task) + weigh h (numbers_at g.T.Task.number l.board.places.places.items) ≡ h (g.T.Task.number l.fn.task) + weigh h (numbers_at g.T.Task.number l.fn.board.places.places.items)
