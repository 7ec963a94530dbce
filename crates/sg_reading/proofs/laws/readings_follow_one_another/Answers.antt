use Rattle.sg_reading.proofs.Sequences.{gives_in_turn, asks_in_turn}
use Rattle.sg_reading.proofs.laws.readings_follow_one_another.Goals as goal

pub returns-clause-value : goal.returns-clause-value
returns-clause-value g c = gives_in_turn g.R.Answers.has_answer

pub returns-clause-asked : goal.returns-clause-asked
returns-clause-asked g c = asks_in_turn g.R.Answers.has_answer
