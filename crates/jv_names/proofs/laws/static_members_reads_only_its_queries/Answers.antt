use Rattle.sg_reading.proofs.Readings.{reads_only}
use Rattle.jv_names.specs.Law.{InGraph}
use Rattle.jv_names.specs.Statics.{static_members}
use Rattle.jv_names.proofs.laws.static_members_reads_only_its_queries.Goals as goal

pub returns : goal.returns
returns c = λ l file all k n g h. reads_only (InGraph g) (InGraph h) (static_members l file all k n)
