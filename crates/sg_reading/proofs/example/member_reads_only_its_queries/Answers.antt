use Rattle.sg_reading.specs.Example.{reply_to, member}
use Rattle.sg_reading.specs.Stop.{Replied}
use Rattle.sg_reading.proofs.Readings.{reads_only}
use Rattle.sg_reading.proofs.example.member_reads_only_its_queries.Goals as goal

pub returns : goal.returns
returns c = λ here there blocks name of place qs. reads_only (Replied (reply_to here)) (Replied (reply_to there)) (member blocks name of) place qs
