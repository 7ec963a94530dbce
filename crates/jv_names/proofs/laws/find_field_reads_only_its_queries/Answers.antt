use Rattle.sg_reading.proofs.Readings.{reads_only}
use Rattle.jv_names.specs.Law.{InGraph}
use Rattle.jv_names.specs.Members.{field}
use Rattle.jv_names.proofs.laws.find_field_reads_only_its_queries.Goals as goal

pub returns : goal.returns
returns c = λ l class n g h. reads_only (InGraph g) (InGraph h) (field l class n)
