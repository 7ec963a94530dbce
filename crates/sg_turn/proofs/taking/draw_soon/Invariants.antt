use Rattle.std.proofs.Common.{◌≡◌}
use Rattle.sg_turn.specs.Turn.{IsSame}
use Rattle.sg_turn.proofs.taking.draw_soon.Given as goal

abbrev pub invariant-loop-round : goal.invariant-loop-round
invariant-loop-round g l = IsSame l.fn.seat l.seat × (l.seat.me ≡ l.fn.seat.me)
