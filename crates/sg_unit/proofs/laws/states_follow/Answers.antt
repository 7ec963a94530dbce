use Rattle.sg_unit.proofs.Steps.{states_follow}
use Rattle.sg_unit.proofs.laws.states_follow.Goals as goal

pub returns : goal.returns
returns g c = states_follow _ _ _ _
