use Rattle.sg_reading.proofs.Readings.{reads_only}
use Rattle.jv_names.specs.declared.counts.Counts.TheVariants.{Methods}
use Rattle.jv_names.specs.declared.kinds.TheConstants.{ABOVE}
use Rattle.jv_names.specs.Law.{InGraph}
use Rattle.jv_names.specs.Members.{find_ends}
use Rattle.jv_names.specs.Replies.{for_name}
use Rattle.jv_names.proofs.laws.find_methods_above_reads_only_its_queries.Goals as goal

pub returns : goal.returns
returns c = λ l class n g h. reads_only (InGraph g) (InGraph h) (find_ends l Methods (for_name ABOVE class n))
