use Rattle.std.proofs.Common.{◌≡◌, ◌+◌, ◌≤◌, ◌++◌, length, reverse, vec_len}
use Rattle.std.specs.Prelude.{vec_capacity}
use Rattle.sg_pool.proofs.pool.as_jobs.Given as goal

abbrev pub invariant-loop-running : goal.invariant-loop-running
invariant-loop-running g l = record {
  laid : l.left.items ++ reverse l.jobs.items ≡ l.fn.units.items;
  room : length l.left.items + length l.jobs.items ≤ vec_capacity l.jobs;
}

abbrev pub decreases-loop-running : goal.decreases-loop-running
decreases-loop-running g l = vec_len l.left
