use Rattle.sg_reading.proofs.Readings.{reads_only}
use Rattle.jv_names.specs.Law.{InGraph}
use Rattle.jv_names.specs.Reference.{reference}
use Rattle.jv_header.proofs.laws.references_read_only_their_queries.Goals as goal

pub returns : goal.returns
returns c = λ l file bodies ids g h. reads_only (InGraph g) (InGraph h) (reference l file bodies ids)
