use Rattle.sg_unit.proofs.Ended.{ended_ask_nothing, ended_took}
use Rattle.sg_unit.proofs.laws.ended_units_took.Goals as goal

pub returns-clause-nothing : goal.returns-clause-nothing
returns-clause-nothing g c = ended_ask_nothing _ _ _ _

pub returns-clause-took : goal.returns-clause-took
returns-clause-took g c = ended_took _ _ _ _
