use Rattle.sg_reading.proofs.Readings.{values_are_one, needs_are_one, values_need_nothing, queries_are_listed}
use Rattle.sg_reading.proofs.laws.readings_have_one_end.Goals as goal

pub returns-clause-value : goal.returns-clause-value
returns-clause-value g c = values_are_one g.R.Answers.has_answer

pub returns-clause-need : goal.returns-clause-need
returns-clause-need g c = needs_are_one g.R.Answers.has_answer

pub returns-clause-either : goal.returns-clause-either
returns-clause-either g c = values_need_nothing g.R.Answers.has_answer

pub returns-clause-listed : goal.returns-clause-listed
returns-clause-listed g c = queries_are_listed g.R.Answers.has_answer
