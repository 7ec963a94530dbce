use Rattle.sg_unit.proofs.Falling.{items_are_few, asks_fall}
use Rattle.sg_unit.proofs.laws.asks_fall.Goals as goal

pub returns-clause-items : goal.returns-clause-items
returns-clause-items g c = items_are_few _

pub returns-clause-fall : goal.returns-clause-fall
returns-clause-fall g c = asks_fall _ _ _ _
