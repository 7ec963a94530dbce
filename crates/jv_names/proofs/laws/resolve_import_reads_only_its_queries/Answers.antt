use Rattle.sg_reading.proofs.Readings.{reads_only}
use Rattle.jv_names.specs.Law.{InGraph}
use Rattle.jv_names.specs.Names.{import_name}
use Rattle.jv_names.proofs.laws.resolve_import_reads_only_its_queries.Goals as goal

pub returns : goal.returns
returns c = λ l all ids g h. reads_only (InGraph g) (InGraph h) (import_name l all ids)
