use Rattle.std.proofs.Common.{◌≡◌, ◌+◌, ◌<◌, ℕ, All, List, ◌++◌, map, reverse, vec_len}
use Rattle.std.specs.Prelude.{vec_capacity}
use Rattle.crossbeam_queue.specs.Passes.{view, IsPassOf}
use Rattle.crossbeam_deque.specs.Handles.{worker_view, worker_deque}
use Rattle.sg_board.specs.Places.{numbers_at}
use Rattle.sg_board.specs.Shapes.{DequeId}
use Rattle.sg_board.specs.Shares.{ways, ways_taken, ways_given, hand_shape, hands_taken, hands_given}
use Rattle.sg_board.specs.Weighing.{weigh, adds, parts_of, given_by, taken_by}
use Rattle.sg_board.proofs.closing.take_apart.Given as goal

abbrev pub invariant-loop-hand : goal.invariant-loop-hand
invariant-loop-hand g l = record {
  pass : IsPassOf l.lock l.pass × (0 < (view l.pass).parts) × ((view l.pass).parts + vec_len l.left ≡ (view l.fn.pass).parts + vec_len l.fn.hands) × ((view l.pass).boards ≡ (view l.fn.pass).boards);
  passes : All (λ x. IsPassOf l.lock x.pass) l.left.items;
  room : (vec_len l.left + vec_len l.owners ≡ vec_len l.fn.hands) × (vec_len l.left + vec_len l.all_ways ≡ vec_len l.fn.hands) × (vec_capacity l.owners ≡ vec_capacity l.fn.owners) × (vec_capacity l.all_ways ≡ vec_capacity l.fn.all_ways);
  owners : map (λ x. (hand_shape x).own) l.left.items ++ reverse (map (λ o. worker_deque o) l.owners.items) ≡ map (λ x. (hand_shape x).own) l.fn.hands.items;
  parts : (k : ℕ) → All (λ x. (hand_shape x).parts ≡ k) l.fn.hands.items → All (λ x. (hand_shape x).parts ≡ k) l.left.items × All (λ o. parts_of (worker_view o) ≡ k) l.owners.items;
  ways : (ds : List DequeId) → All (λ x. (hand_shape x).ways ≡ ds) l.fn.hands.items → All (λ x. (hand_shape x).ways ≡ ds) l.left.items × All (λ w. ways w.items ≡ ds) l.all_ways.items;
  all : (h : ℕ → ℕ) → taken_by h (view l.pass) + adds (λ o. taken_by h (worker_view o)) l.owners.items + adds (λ w. ways_taken h w.items) l.all_ways.items + hands_taken l.left.items h + given_by h (view l.fn.pass) + hands_given g.T.Task.number l.fn.hands.items h + weigh h (numbers_at g.T.Task.number l.fn.board.places.places.items)
      ≡ taken_by h (view l.fn.pass) + hands_taken l.fn.hands.items h + given_by h (view l.pass) + adds (λ o. given_by h (worker_view o)) l.owners.items + adds (λ w. ways_given h w.items) l.all_ways.items + hands_given g.T.Task.number l.left.items h + weigh h (numbers_at g.T.Task.number l.board.places.places.items);
}

abbrev pub decreases-loop-hand : goal.decreases-loop-hand
decreases-loop-hand g l = vec_len l.left
