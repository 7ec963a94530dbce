use Rattle.std.proofs.Common.{◌≡◌, []}
use Rattle.sg_turn.specs.declared.stage.Stage.TheVariants.{Drawn}
use Rattle.sg_turn.specs.Turn.{IsSame}
use Rattle.sg_turn.proofs.taking.take.Given as goal

abbrev pub invariant-loop : goal.invariant-loop
invariant-loop g l = IsSame l.fn.seat l.seat × (l.seat.me ≡ (record l.fn.seat.me.0 { stage = Drawn l.ticket }, []))
