use Rattle.sg_strata.proofs.Moments.{closed_are_greatest, waiting_are_open}
use Rattle.sg_strata.proofs.laws.header_runs_are_greatest.Goals as goal

pub returns-clause-greatest : goal.returns-clause-greatest
returns-clause-greatest g c = closed_are_greatest _ _

pub returns-clause-others : goal.returns-clause-others
returns-clause-others g c = waiting_are_open _ _
