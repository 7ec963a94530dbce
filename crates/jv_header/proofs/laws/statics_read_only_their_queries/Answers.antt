use Rattle.sg_reading.proofs.Readings.{reads_only}
use Rattle.jv_names.specs.Law.{InGraph}
use Rattle.jv_header.specs.StaticImports.{statics_rule}
use Rattle.jv_header.proofs.laws.statics_read_only_their_queries.Goals as goal

pub returns : goal.returns
returns c = λ l names file is g h. reads_only (InGraph g) (InGraph h) (statics_rule l names file is)
