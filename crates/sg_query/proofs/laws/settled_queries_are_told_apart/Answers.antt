use Rattle.sg_query.proofs.Examples.{waits_apart, looks_apart}
use Rattle.sg_query.proofs.laws.settled_queries_are_told_apart.Goals as goal

pub returns-clause-waits : goal.returns-clause-waits
returns-clause-waits c = waits_apart

pub returns-clause-looks : goal.returns-clause-looks
returns-clause-looks c = looks_apart
