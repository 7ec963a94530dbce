use Rattle.sg_headers.proofs.Examples.{some_runs_are_orderly as proved}
use Rattle.sg_headers.proofs.laws.some_runs_are_orderly.Goals as goal

pub returns : goal.returns
returns g c = proved _ _ _ _
