use Rattle.sg_state.proofs.Resting.{rows_split}
use Rattle.sg_state.proofs.laws.rows_split.Goals as goal

pub returns : goal.returns
returns g c = rows_split _
