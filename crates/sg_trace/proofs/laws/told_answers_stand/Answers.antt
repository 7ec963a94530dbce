use Rattle.sg_trace.proofs.Telling.{told_answers_stand as proved}
use Rattle.sg_trace.proofs.laws.told_answers_stand.Goals as goal

pub returns : goal.returns
returns g c = proved _ _ _ _
