use Rattle.sg_reading.proofs.Progress.{residual_added, residual_known}
use Rattle.sg_reading.proofs.laws.residuals_go_on.Goals as goal

pub returns-clause-stay : goal.returns-clause-stay
returns-clause-stay g c = residual_added

pub returns-clause-known : goal.returns-clause-known
returns-clause-known g c = residual_known
