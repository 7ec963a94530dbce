use Rattle.sg_state.proofs.Making.{FreshBelow}
use Rattle.sg_state.proofs.place.Place.fresh.Given as goal

abbrev pub invariant-loop-label : goal.invariant-loop-label
invariant-loop-label g l = FreshBelow l.place l.unit l.labels l.datum l.label
