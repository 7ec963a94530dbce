use Rattle.sg_unit.proofs.Halting.{stuck_runs_stay_stuck, stuck_is_told, own_entries_end, end_is_told}
use Rattle.sg_unit.proofs.laws.ends_are_told.Goals as goal

pub returns-clause-stay : goal.returns-clause-stay
returns-clause-stay g c = stuck_runs_stay_stuck _ _ _ _

pub returns-clause-stuck : goal.returns-clause-stuck
returns-clause-stuck g c = stuck_is_told _ _ _ _

pub returns-clause-own : goal.returns-clause-own
returns-clause-own g c = own_entries_end _ _ _ _

pub returns-clause-ended : goal.returns-clause-ended
returns-clause-ended g c = end_is_told _ _ _ _
