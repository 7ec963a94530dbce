use Rattle.jv_layout.proofs.SoundPlaces.{scopes_have_places}
use Rattle.jv_layout.proofs.laws.scopes_have_places.Goals as goal

pub returns : goal.returns
returns c = scopes_have_places
