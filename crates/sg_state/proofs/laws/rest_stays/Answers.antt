use Rattle.sg_state.proofs.Resting.{rest_stays}
use Rattle.sg_state.proofs.laws.rest_stays.Goals as goal

pub returns : goal.returns
returns g c = rest_stays _
