use Rattle.sg_reading.proofs.Readings.{reads_only}
use Rattle.jv_names.specs.Law.{InGraph}
use Rattle.jv_expr.specs.Conversions.{fits}
use Rattle.jv_expr.proofs.laws.fits_reads_only_its_queries.Goals as goal

pub returns : goal.returns
returns c = λ l s t g h. reads_only (InGraph g) (InGraph h) (fits l s t)
