use Rattle.sg_reading.proofs.Readings.{reads_only}
use Rattle.jv_names.specs.Law.{InGraph}
use Rattle.jv_names.specs.Members.{all_methods}
use Rattle.jv_names.proofs.laws.all_methods_read_only_their_queries.Goals as goal

pub returns : goal.returns
returns c = λ l class n g h. reads_only (InGraph g) (InGraph h) (all_methods l class n)
