use Rattle.std.proofs.Common.{◌≡◌, ◌+◌, false, [], All, length, vec_len}
use Rattle.sg_turn.specs.Turn.{IsOf, fresh_seats}
use Rattle.sg_turn_tests.proofs.tests.jobs_of.Given as goal

abbrev pub invariant-loop-seat : goal.invariant-loop-seat
invariant-loop-seat l = record {
  left : l.left.items ≡ fresh_seats l.turn.turn l.turn.root l.number;
  made : length l.jobs.items + l.number ≡ l.fn.count;
  jobs : All (λ j. IsOf l.turn j.seat × (j.seat.number ≡ j.number) × (j.seat.inside ≡ false) × (j.seat.spent ≡ false) × (j.seat.kept ≡ [])) l.jobs.items;
}

abbrev pub decreases-loop-seat : goal.decreases-loop-seat
decreases-loop-seat l = vec_len l.left
