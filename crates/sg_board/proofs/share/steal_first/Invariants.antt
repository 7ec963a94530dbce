use Rattle.std.proofs.Common.{◌≡◌, ℕ, length, map}
use Rattle.crossbeam_deque.specs.Handles.{view, stealer_deque}
use Rattle.sg_board.specs.Weighing.{total, taken_by, given_by}
use Rattle.sg_board.proofs.share.steal_first.Given as goal

abbrev pub invariant-loop-index : goal.invariant-loop-index
invariant-loop-index g l = record {
  taken : (h : ℕ → ℕ) → total (taken_by h) (map (λ t. view t.pass) l.thieves.items) ≡ total (taken_by h) (map (λ t. view t.pass) l.fn.thieves.items);
  given : (h : ℕ → ℕ) → total (given_by h) (map (λ t. view t.pass) l.thieves.items) ≡ total (given_by h) (map (λ t. view t.pass) l.fn.thieves.items);
  same : map (λ t. stealer_deque t.stealer) l.thieves.items ≡ map (λ t. stealer_deque t.stealer) l.fn.thieves.items;
  len : length l.thieves.items ≡ length l.fn.thieves.items;
}
