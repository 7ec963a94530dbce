use Rattle.jv_layout.proofs.SoundEdges.{skeletons_fit}
use Rattle.jv_layout.proofs.laws.skeletons_fit.Goals as goal

pub returns : goal.returns
returns c = skeletons_fit
