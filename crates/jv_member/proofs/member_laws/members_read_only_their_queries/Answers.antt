use Rattle.sg_reading.proofs.Readings.{reads_only}
use Rattle.jv_names.specs.Law.{InGraph}
use Rattle.jv_member.specs.Members.{members_rule}
use Rattle.jv_member.proofs.member_laws.members_read_only_their_queries.Goals as goal

pub returns : goal.returns
returns c = λ l names ty d g h. reads_only (InGraph g) (InGraph h) (members_rule l names ty d)
