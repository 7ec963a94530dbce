use Rattle.sg_reading.proofs.Readings.{reads_only, needs_only}
use Rattle.sg_reading.proofs.laws.readings_read_only_their_queries.Goals as goal

pub returns-clause-value : goal.returns-clause-value
returns-clause-value g c = reads_only g.R.Answers.has_answer g.S.Answers.has_answer

pub returns-clause-need : goal.returns-clause-need
returns-clause-need g c = needs_only g.R.Answers.has_answer g.S.Answers.has_answer
