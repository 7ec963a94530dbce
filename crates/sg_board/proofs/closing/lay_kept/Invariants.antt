use Rattle.std.proofs.Common.{◌≡◌, ◌+◌, ℕ, length, map}
use Rattle.sg_board.specs.Places.{numbers_at}
use Rattle.sg_board.specs.Weighing.{weigh}
use Rattle.sg_board.proofs.closing.lay_kept.Given as goal

abbrev pub invariant-loop-task : goal.invariant-loop-task
invariant-loop-task g l = (h : ℕ → ℕ) → weigh h (numbers_at g.T.Task.number l.board.places.places.items) + weigh h (map g.T.Task.number l.left.items) ≡ weigh h (map g.T.Task.number l.fn.kept.items) + weigh h (numbers_at g.T.Task.number l.fn.board.places.places.items)

abbrev pub decreases-loop-task : goal.decreases-loop-task
decreases-loop-task g l = length l.left.items
