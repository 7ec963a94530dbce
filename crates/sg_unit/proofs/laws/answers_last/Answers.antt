use Rattle.sg_unit.proofs.Asks.{answers_last}
use Rattle.sg_unit.proofs.laws.answers_last.Goals as goal

pub returns : goal.returns
returns g c = answers_last _ _ _ _
