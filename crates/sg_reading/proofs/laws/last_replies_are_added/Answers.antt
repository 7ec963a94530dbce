use Rattle.sg_reading.proofs.Puts.{last_replies_are_added}
use Rattle.sg_reading.proofs.laws.last_replies_are_added.Goals as goal

pub returns : goal.returns
returns g c = λ decides. last_replies_are_added g.Q.PartialEq.eq decides
