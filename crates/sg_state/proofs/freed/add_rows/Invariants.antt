use Rattle.sg_state.specs.Freed.{Adds, IsFreeBelow}
use Rattle.sg_state.proofs.freed.add_rows.Given as goal

abbrev pub invariant-loop-label : goal.invariant-loop-label
invariant-loop-label g l = Adds l.initial.needs.items l.needs.items (IsFreeBelow l.place l.unit l.s l.label)
