use Rattle.sg_reading.proofs.Readings.{values_where_replied, rules_are_known, known_in_one_way}
use Rattle.sg_reading.proofs.laws.replies_decide_readings.Goals as goal

pub returns-clause-value : goal.returns-clause-value
returns-clause-value g c = values_where_replied

pub returns-clause-known : goal.returns-clause-known
returns-clause-known g c = rules_are_known

pub returns-clause-one : goal.returns-clause-one
returns-clause-one g c = known_in_one_way
