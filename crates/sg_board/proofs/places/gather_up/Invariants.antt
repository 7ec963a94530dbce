use Rattle.std.proofs.Common.{◌≡◌, ◌+◌, ◌≤◌, ◌++◌, All, Some, length, map, reverse, vec_len}
use Rattle.std.specs.Prelude.{vec_capacity}
use Rattle.sg_board.specs.Places.{task_at, HasTask}
use Rattle.sg_board.proofs.places.gather_up.Given as goal

abbrev pub invariant-loop-place : goal.invariant-loop-place
invariant-loop-place g l = record {
  laid : map task_at l.left.items ++ reverse (map (λ t. Some t) l.tasks.items) ≡ map task_at l.fn.places.items;
  back : All HasTask l.left.items;
  room : length l.left.items + length l.tasks.items ≤ vec_capacity l.tasks;
}

abbrev pub decreases-loop-place : goal.decreases-loop-place
decreases-loop-place g l = vec_len l.left
