use Rattle.jv_layout.proofs.SoundSkeletons.{skeletons_are_sound}
use Rattle.jv_layout.proofs.laws.skeletons_are_sound.Goals as goal

pub returns : goal.returns
returns c = skeletons_are_sound
