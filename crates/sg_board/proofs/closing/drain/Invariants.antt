use Rattle.std.proofs.Common.{◌≡◌, ◌+◌, ℕ}
use Rattle.crossbeam_deque.specs.Handles.{worker_view}
use Rattle.sg_board.specs.Places.{numbers_at}
use Rattle.sg_board.specs.Weighing.{weigh, given_by, taken_by, all_parts}
use Rattle.sg_board.proofs.closing.drain.Given as goal

abbrev pub invariant-loop : goal.invariant-loop
invariant-loop g l = record {
  parts : (worker_view l.owner).parts ≡ all_parts;
  given : (h : ℕ → ℕ) → given_by h (worker_view l.owner) ≡ given_by h (worker_view l.fn.owner);
  taken : (h : ℕ → ℕ) → taken_by h (worker_view l.owner) + weigh h (numbers_at g.T.Task.number l.fn.board.places.places.items) ≡ taken_by h (worker_view l.fn.owner) + weigh h (numbers_at g.T.Task.number l.board.places.places.items);
}
