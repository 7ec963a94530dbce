use Rattle.sg_query.proofs.Answering.{answers_are_one}
use Rattle.sg_query.proofs.Existing.{answers_exist}
use Rattle.sg_query.proofs.laws.every_query_has_one_answer.Goals as goal

pub returns-clause-exists : goal.returns-clause-exists
returns-clause-exists g c = answers_exist _

pub returns-clause-one : goal.returns-clause-one
returns-clause-one g c = answers_are_one _
