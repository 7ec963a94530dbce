use Rattle.std.proofs.Common.{◌≡◌, ◌+◌, ◌<◌, ℕ, All, List, [], ◌∷◌, ◌++◌, vec_len}
use Rattle.std.specs.Prelude.{vec_capacity}
use Rattle.crossbeam_deque.specs.Handles.{worker_view, worker_deque}
use Rattle.sg_board.specs.Shapes.{DequeId}
use Rattle.sg_board.specs.Shares.{ways, ways_taken, ways_given}
use Rattle.sg_board.specs.Weighing.{adds, given_by, taken_by}
use Rattle.sg_board.proofs.closing.absorb_ways.Given as goal

abbrev pub invariant-loop-more : goal.invariant-loop-more
invariant-loop-more g l = record {
  owner : (worker_deque l.owner ≡ worker_deque l.fn.owner) × (0 < (worker_view l.owner).parts) × ((worker_view l.owner).parts + vec_len l.left ≡ (worker_view l.fn.owner).parts + vec_len l.fn.full);
  room : (vec_len l.left + vec_len l.spare ≡ vec_len l.fn.full) × (vec_capacity l.spare ≡ vec_capacity l.fn.spare) × (vec_capacity l.left ≡ vec_capacity l.fn.full);
  last : All (λ w. (ds : List DequeId) × (ways w.items ≡ ds ++ worker_deque l.fn.owner ∷ [])) l.left.items;
  ways : (ds : List DequeId) → All (λ w. ways w.items ≡ ds ++ worker_deque l.fn.owner ∷ []) l.fn.full.items → All (λ w. ways w.items ≡ ds ++ worker_deque l.fn.owner ∷ []) l.left.items × All (λ w. ways w.items ≡ ds) l.spare.items;
  taken : (h : ℕ → ℕ) → taken_by h (worker_view l.owner) + adds (λ w. ways_taken h w.items) l.left.items + adds (λ w. ways_taken h w.items) l.spare.items ≡ taken_by h (worker_view l.fn.owner) + adds (λ w. ways_taken h w.items) l.fn.full.items;
  given : (h : ℕ → ℕ) → given_by h (worker_view l.owner) + adds (λ w. ways_given h w.items) l.left.items + adds (λ w. ways_given h w.items) l.spare.items ≡ given_by h (worker_view l.fn.owner) + adds (λ w. ways_given h w.items) l.fn.full.items;
}

abbrev pub decreases-loop-more : goal.decreases-loop-more
decreases-loop-more g l = vec_len l.left
