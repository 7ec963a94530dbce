use Rattle.std.proofs.Common.{◌≡◌, ◌-◌, All, [], map, vec_len}
use Rattle.crossbeam_deque.specs.Handles.{worker_view, worker_deque}
use Rattle.sg_board.specs.Shares.{AreNew}
use Rattle.sg_board.specs.Weighing.{account, all_parts}
use Rattle.sg_board.proofs.dealing.open.Given as goal

abbrev pub invariant-loop-worker : goal.invariant-loop-worker
invariant-loop-worker g l = record {
  owners : All (λ o. worker_view o ≡ account (all_parts - l.workers) [] [] 0) l.owners.items;
  count : (vec_len l.owners ≡ l._worker) × (vec_len l.all_ways ≡ l.workers);
  ways : All (λ w. AreNew (map (λ o. worker_deque o) l.owners.items) w.items) l.all_ways.items;
}
