use Rattle.sg_reading.proofs.Readings.{reads_only}
use Rattle.jv_names.specs.declared.counts.Counts.TheVariants.{Methods}
use Rattle.jv_names.specs.declared.kinds.TheConstants.{METHODS}
use Rattle.jv_names.specs.Law.{InGraph}
use Rattle.jv_names.specs.Members.{find_ends}
use Rattle.jv_names.specs.Replies.{for_any}
use Rattle.jv_names.proofs.laws.find_all_methods_reads_only_its_queries.Goals as goal

pub returns : goal.returns
returns c = λ l class g h. reads_only (InGraph g) (InGraph h) (find_ends l Methods (for_any METHODS class))
