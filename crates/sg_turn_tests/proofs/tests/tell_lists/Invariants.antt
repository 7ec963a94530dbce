use Rattle.std.proofs.Common.{◌≡◌, false, []}
use Rattle.sg_turn.specs.Turn.{IsOf}
use Rattle.sg_turn_tests.proofs.tests.tell_lists.Given as goal

abbrev pub invariant-loop-more : goal.invariant-loop-more
invariant-loop-more g l = record {
  own : IsOf l.turn l.seat × (l.seat.number ≡ l.number);
  outside : (l.seat.inside ≡ false) × (l.seat.spent ≡ false) × (l.seat.kept ≡ []);
}

abbrev pub invariant-loop-round : goal.invariant-loop-round
invariant-loop-round g l = record {
  own : IsOf l.turn l.seat × (l.seat.number ≡ l.number);
  outside : (l.seat.inside ≡ false) × (l.seat.spent ≡ false) × (l.seat.kept ≡ []);
}
