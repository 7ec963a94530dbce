use Rattle.sg_query.proofs.Settling.{items_are_kept}
use Rattle.sg_query.proofs.laws.searches_keep_their_items.Goals as goal

pub returns : goal.returns
returns g c = items_are_kept _
