use Rattle.sg_engine.proofs.Counting.{searches_end}
use Rattle.sg_engine.proofs.laws.searches_end.Goals as goal

pub returns : goal.returns
returns g c = searches_end _ _
