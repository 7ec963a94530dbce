use Rattle.sg_unit.proofs.Growing.{runs_grow, runs_hold, own_runs_grow, traces_grow}
use Rattle.sg_unit.proofs.laws.runs_grow.Goals as goal

pub returns-clause-run : goal.returns-clause-run
returns-clause-run g c = runs_grow _ _ _ _

pub returns-clause-holds : goal.returns-clause-holds
returns-clause-holds g c = runs_hold _ _ _ _

pub returns-clause-own : goal.returns-clause-own
returns-clause-own g c = own_runs_grow _ _ _ _

pub returns-clause-told : goal.returns-clause-told
returns-clause-told g c = traces_grow _ _ _ _
