use Rattle.std.proofs.Common.{◌≡◌, ◌+◌, ◌-◌, All, List, [], ◌∷◌, ◌++◌, vec_len}
use Rattle.crossbeam_deque.specs.Handles.{worker_view, worker_deque}
use Rattle.sg_board.specs.Shapes.{DequeId}
use Rattle.sg_board.specs.Shares.{AreNew}
use Rattle.sg_board.specs.Weighing.{account, all_parts}
use Rattle.sg_board.proofs.dealing.open_one.Given as goal

abbrev pub invariant-loop-ways : goal.invariant-loop-ways
invariant-loop-ways g l = record {
  owner : worker_view l.owner ≡ account (all_parts - vec_len l.more) [] [] 0;
  count : vec_len l.left + vec_len l.more ≡ vec_len l.fn.all_ways;
  ways : (ds : List DequeId) → All (λ w. AreNew ds w.items) l.fn.all_ways.items → All (λ w. AreNew ds w.items) l.left.items × All (λ w. AreNew (ds ++ worker_deque l.owner ∷ []) w.items) l.more.items;
}

abbrev pub decreases-loop-ways : goal.decreases-loop-ways
decreases-loop-ways g l = vec_len l.left
