use Rattle.std.proofs.Common.{◌≡◌, ◌≤◌, All, None, length}
use Rattle.std.specs.Prelude.{vec_capacity}
use Rattle.sg_board.specs.Places.{task_at}
use Rattle.sg_board.proofs.places.lay_out.Given as goal

abbrev pub invariant-loop-number : goal.invariant-loop-number
invariant-loop-number g l = record {
  away : All (λ p. task_at p ≡ None) l.places.items;
  count : length l.places.items ≡ l._number;
  room : l.count ≤ vec_capacity l.places;
}
