use Rattle.sg_reading.proofs.Readings.{reads_only}
use Rattle.jv_names.specs.Law.{InGraph}
use Rattle.jv_unit.specs.Plans.{unit_ending}
use Rattle.jv_unit.proofs.laws.unit_endings_read_only_their_queries.Goals as goal

pub returns : goal.returns
returns c = λ w u g h. reads_only (InGraph g) (InGraph h) (unit_ending w u)
