use Rattle.sg_query.proofs.Settling.{settled_stable, settled_local, later_alike}
use Rattle.sg_query.proofs.laws.settled_answers_are_stable.Goals as goal

pub returns-clause-stable : goal.returns-clause-stable
returns-clause-stable g c = settled_stable _

pub returns-clause-local : goal.returns-clause-local
returns-clause-local g c = settled_local _

pub returns-clause-later : goal.returns-clause-later
returns-clause-later g c = later_alike _
