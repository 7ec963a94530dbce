use Rattle.sg_reading.proofs.Readings.{reads_only}
use Rattle.jv_names.specs.Law.{InGraph}
use Rattle.jv_names.specs.Access.{member_accessible}
use Rattle.jv_names.proofs.laws.accessible_reads_only_its_queries.Goals as goal

pub returns : goal.returns
returns c = λ l file bodies m through g h. reads_only (InGraph g) (InGraph h) (member_accessible l file bodies m through)
