use Rattle.sg_state.proofs.SoundOpenings.{sound_openings_open}
use Rattle.sg_state.proofs.laws.sound_openings_open.Goals as goal

pub returns : goal.returns
returns g c = sound_openings_open _
