use Rattle.std.proofs.Common.{◌≡◌, false, []}
use Rattle.sg_turn.specs.Turn.{IsOf}
use Rattle.sg_turn_tests.proofs.tests.tell_all.Given as goal

abbrev pub invariant-loop-count : goal.invariant-loop-count
invariant-loop-count g l = record {
  own : IsOf l.turn l.seat × (l.seat.number ≡ l.number);
  outside : (l.seat.inside ≡ false) × (l.seat.spent ≡ false) × (l.seat.kept ≡ []);
}
