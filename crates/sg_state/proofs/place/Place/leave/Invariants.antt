use Rattle.sg_state.proofs.Leaving.{LeftBelow}
use Rattle.sg_state.proofs.place.Place.leave.Given as goal

abbrev pub invariant-loop-label : goal.invariant-loop-label
invariant-loop-label g l = LeftBelow l.initial.self l.self l.label l.unit
