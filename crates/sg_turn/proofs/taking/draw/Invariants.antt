use Rattle.std.proofs.Common.{◌≡◌}
use Rattle.sg_turn.specs.Turn.{IsSame}
use Rattle.sg_turn.proofs.taking.draw.Given as goal

abbrev pub invariant-loop : goal.invariant-loop
invariant-loop g l = IsSame l.fn.seat l.seat × (l.seat.me ≡ l.fn.seat.me)
