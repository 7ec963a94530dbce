use Rattle.sg_headers.proofs.Small.{small_programs_are_solved as proved}
use Rattle.sg_headers.proofs.laws.small_programs_are_solved.Goals as goal

pub returns : goal.returns
returns g c = proved _ _
