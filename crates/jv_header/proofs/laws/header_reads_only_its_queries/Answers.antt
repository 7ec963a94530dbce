use Rattle.sg_reading.proofs.Readings.{reads_only}
use Rattle.jv_names.specs.Law.{InGraph}
use Rattle.jv_header.specs.Header.{header_rule}
use Rattle.jv_header.proofs.laws.header_reads_only_its_queries.Goals as goal

pub returns : goal.returns
returns c = λ l names ty extends implements g h. reads_only (InGraph g) (InGraph h) (header_rule l names ty extends implements)
