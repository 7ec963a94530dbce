use Rattle.sg_reading.proofs.Readings.{reads_only}
use Rattle.jv_names.specs.Law.{InGraph}
use Rattle.jv_names.specs.Access.{type_accessible}
use Rattle.jv_names.proofs.laws.type_accessible_reads_only_its_queries.Goals as goal

pub returns : goal.returns
returns c = λ l file bodies t g h. reads_only (InGraph g) (InGraph h) (type_accessible l file bodies t)
