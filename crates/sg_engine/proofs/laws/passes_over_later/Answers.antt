use Rattle.sg_engine.proofs.Keying.{passes_over_later}
use Rattle.sg_engine.proofs.laws.passes_over_later.Goals as goal

pub returns : goal.returns
returns g c = passes_over_later _
