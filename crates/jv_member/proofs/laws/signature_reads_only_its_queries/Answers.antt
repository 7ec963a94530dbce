use Rattle.sg_reading.proofs.Readings.{reads_only}
use Rattle.jv_names.specs.Law.{InGraph}
use Rattle.jv_member.specs.Signatures.{signature_rule}
use Rattle.jv_member.proofs.laws.signature_reads_only_its_queries.Goals as goal

pub returns : goal.returns
returns c = λ l names ty class m g h. reads_only (InGraph g) (InGraph h) (signature_rule l names ty class m)
