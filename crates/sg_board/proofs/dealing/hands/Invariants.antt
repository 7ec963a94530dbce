use Rattle.std.proofs.Common.{◌≡◌, ◌+◌, ◌-◌, ℕ, All, List, [], ◌++◌, map, reverse, vec_len}
use Rattle.crossbeam_queue.specs.Passes.{view, IsPassOf}
use Rattle.crossbeam_deque.specs.Handles.{worker_view, worker_deque}
use Rattle.sg_board.specs.Shares.{AreNew, hand_shape, hands_taken, hands_given}
use Rattle.sg_board.specs.Weighing.{account, all_parts}
use Rattle.sg_board.proofs.dealing.hands.Given as goal

abbrev pub invariant-loop-owner : goal.invariant-loop-owner
invariant-loop-owner g l = record {
  pass : IsPassOf l.lock l.pass × (view l.pass ≡ account (all_parts - vec_len l.hands) (view l.fn.pass).given (view l.fn.pass).taken (view l.fn.pass).boards);
  passes : All (λ x. IsPassOf l.lock x.pass) l.hands.items;
  count : (vec_len l.left + vec_len l.hands ≡ vec_len l.fn.owners) × (vec_len l.ways_left ≡ vec_len l.left);
  owners : All (λ o. worker_view o ≡ account (all_parts - vec_len l.fn.owners) [] [] 0) l.left.items;
  ways : All (λ w. AreNew (map (λ o. worker_deque o) l.fn.owners.items) w.items) l.ways_left.items;
  shapes : All (λ x. ((hand_shape x).ways ≡ map (λ o. worker_deque o) l.fn.owners.items) × ((hand_shape x).parts ≡ all_parts - vec_len l.fn.owners)) l.hands.items;
  own : map (λ o. worker_deque o) l.left.items ++ reverse (map (λ x. (hand_shape x).own) l.hands.items) ≡ map (λ o. worker_deque o) l.fn.owners.items;
  none : (h : ℕ → ℕ) → (hands_taken l.hands.items h ≡ 0) × (hands_given g.T.Task.number l.hands.items h ≡ 0);
}

abbrev pub decreases-loop-owner : goal.decreases-loop-owner
decreases-loop-owner g l = vec_len l.left
