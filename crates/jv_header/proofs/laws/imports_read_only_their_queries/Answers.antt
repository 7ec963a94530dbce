use Rattle.sg_reading.proofs.Readings.{reads_only}
use Rattle.jv_names.specs.Law.{InGraph}
use Rattle.jv_header.specs.Imports.{imports_rule}
use Rattle.jv_header.proofs.laws.imports_read_only_their_queries.Goals as goal

pub returns : goal.returns
returns c = λ l names file u g h. reads_only (InGraph g) (InGraph h) (imports_rule l names file u)
