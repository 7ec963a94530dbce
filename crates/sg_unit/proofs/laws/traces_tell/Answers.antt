use Rattle.sg_unit.proofs.Tracing.{traces_tell, traces_allow, traces_hand}
use Rattle.sg_unit.proofs.laws.traces_tell.Goals as goal

pub returns-clause-run : goal.returns-clause-run
returns-clause-run g c = traces_tell _ _ _ _

pub returns-clause-own : goal.returns-clause-own
returns-clause-own g c = traces_allow _ _ _ _

pub returns-clause-hand : goal.returns-clause-hand
returns-clause-hand g c = traces_hand _ _ _ _
