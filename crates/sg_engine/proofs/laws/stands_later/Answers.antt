use Rattle.sg_engine.proofs.Standing.{stands_later}
use Rattle.sg_engine.proofs.laws.stands_later.Goals as goal

pub returns : goal.returns
returns g c = stands_later _
