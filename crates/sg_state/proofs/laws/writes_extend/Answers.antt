use Rattle.sg_state.proofs.Extending.{writes_extend}
use Rattle.sg_state.proofs.laws.writes_extend.Goals as goal

pub returns : goal.returns
returns g c = writes_extend _
