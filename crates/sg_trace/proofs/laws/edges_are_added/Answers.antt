use Rattle.sg_trace.proofs.Telling.{edges_are_added as proved}
use Rattle.sg_trace.proofs.laws.edges_are_added.Goals as goal

pub returns : goal.returns
returns g c = proved _ _ _ _
