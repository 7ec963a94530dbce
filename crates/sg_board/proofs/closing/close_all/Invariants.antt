use Rattle.std.proofs.Common.{◌≡◌, ◌+◌, ◌≤◌, ℕ, All, [], map, vec_len}
use Rattle.std.specs.Prelude.{vec_capacity}
use Rattle.crossbeam_deque.specs.Handles.{worker_view, worker_deque}
use Rattle.sg_board.specs.Places.{numbers_at}
use Rattle.sg_board.specs.Shares.{ways, ways_taken, ways_given}
use Rattle.sg_board.specs.Weighing.{weigh, adds, parts_of, given_by, taken_by, all_parts}
use Rattle.sg_board.proofs.closing.close_all.Given as goal

abbrev pub invariant-loop-owner : goal.invariant-loop-owner
invariant-loop-owner g l = record {
  room : (l.spare.items ≡ []) × (vec_len l.full ≤ vec_capacity l.full) × (vec_len l.full ≤ vec_capacity l.spare) × (vec_len l.full ≡ vec_len l.fn.all_ways);
  parts : All (λ o. parts_of (worker_view o) + vec_len l.fn.all_ways ≡ all_parts) l.left.items;
  ways : All (λ w. ways w.items ≡ map (λ o. worker_deque o) l.left.items) l.full.items;
  all : (h : ℕ → ℕ) → adds (λ o. given_by h (worker_view o)) l.fn.owners.items + adds (λ w. ways_given h w.items) l.fn.all_ways.items + weigh h (numbers_at g.T.Task.number l.fn.board.places.places.items) + adds (λ o. taken_by h (worker_view o)) l.left.items + adds (λ w. ways_taken h w.items) l.full.items
      ≡ adds (λ o. taken_by h (worker_view o)) l.fn.owners.items + adds (λ w. ways_taken h w.items) l.fn.all_ways.items + weigh h (numbers_at g.T.Task.number l.board.places.places.items) + adds (λ o. given_by h (worker_view o)) l.left.items + adds (λ w. ways_given h w.items) l.full.items;
}

abbrev pub decreases-loop-owner : goal.decreases-loop-owner
decreases-loop-owner g l = vec_len l.left
