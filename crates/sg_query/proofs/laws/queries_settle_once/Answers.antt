use Rattle.sg_query.proofs.Settling.{settled_stay_settled, waiting_stay_open}
use Rattle.sg_query.proofs.laws.queries_settle_once.Goals as goal

pub returns-clause-settled : goal.returns-clause-settled
returns-clause-settled g c = settled_stay_settled _

pub returns-clause-waiting : goal.returns-clause-waiting
returns-clause-waiting g c = waiting_stay_open _
