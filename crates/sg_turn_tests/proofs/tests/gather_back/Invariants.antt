use Rattle.std.proofs.Common.{◌≡◌, ◌+◌, false, [], All, length, vec_len}
use Rattle.std.specs.Prelude.{IfOk}
use Rattle.sg_turn.specs.Turn.{IsOf}
use Rattle.sg_turn_tests.proofs.tests.gather_back.Given as goal

abbrev pub invariant-loop-other : goal.invariant-loop-other
invariant-loop-other l = record {
  gatherer : IsOf l.turn l.gatherer × (l.gatherer.inside ≡ false);
  count : length l.gatherer.kept + length l.left.items + 1 ≡ length l.fn.done.items;
  left : All (λ r. IfOk r (λ s. IsOf l.turn s × (s.inside ≡ false) × (s.kept ≡ []))) l.left.items;
}

abbrev pub decreases-loop-other : goal.decreases-loop-other
decreases-loop-other l = vec_len l.left
