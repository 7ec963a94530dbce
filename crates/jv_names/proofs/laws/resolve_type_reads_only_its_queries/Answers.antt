use Rattle.sg_reading.proofs.Readings.{reads_only}
use Rattle.jv_names.specs.Law.{InGraph}
use Rattle.jv_names.specs.TypeNames.{type_name}
use Rattle.jv_names.proofs.laws.resolve_type_reads_only_its_queries.Goals as goal

pub returns : goal.returns
returns c = λ l file bodies ids g h. reads_only (InGraph g) (InGraph h) (type_name l file bodies ids)
