use Rattle.sg_strata.proofs.Greatest.{stuck_is_greatest}
use Rattle.sg_strata.proofs.Running.{stuck_has_run}
use Rattle.sg_strata.proofs.laws.stuck_sets_are_greatest.Goals as goal

pub returns-clause-greatest : goal.returns-clause-greatest
returns-clause-greatest g c = stuck_is_greatest _ _

pub returns-clause-runs : goal.returns-clause-runs
returns-clause-runs g c = stuck_has_run _ _
