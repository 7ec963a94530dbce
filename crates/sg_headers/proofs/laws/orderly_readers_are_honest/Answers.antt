use Rattle.sg_headers.proofs.Reading.{orderly_readers_are_honest as proved}
use Rattle.sg_headers.proofs.laws.orderly_readers_are_honest.Goals as goal

pub returns : goal.returns
returns g c = proved _ _ _ _ _
