use Rattle.sg_reading.proofs.Readings.{reads_only}
use Rattle.jv_names.specs.Law.{InGraph}
use Rattle.jv_names.specs.WrittenTypes.{written_type}
use Rattle.jv_names.proofs.laws.resolve_written_type_reads_only_its_queries.Goals as goal

pub returns : goal.returns
returns c = λ l names file bodies t g h. reads_only (InGraph g) (InGraph h) (written_type l names file bodies t)
