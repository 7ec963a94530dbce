use Rattle.sg_unit.proofs.Lonely.{some_get_stuck}
use Rattle.sg_unit.proofs.laws.some_get_stuck.Goals as goal

pub returns : goal.returns
returns g c = some_get_stuck _ _ _ _
