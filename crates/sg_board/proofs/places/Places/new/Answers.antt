use Rattle.std.proofs.Common.{◌∙◌}
use Rattle.sg_board.proofs.Laid.{none_there, none_placed}
use Rattle.sg_board.proofs.places.Places.new.Goals as goal

pub invariant_of-result : goal.invariant_of-result
invariant_of-result g c = record {
  sized = c.lay_out-places.ensures.count ∙ c.requires;
  placed = none_placed g.T.Task.number c.lay_out-places.result.items c.lay_out-places.ensures.away;
}

pub returns : goal.returns
returns g c = none_there g.T.Task.number c.lay_out-places.result.items c.lay_out-places.ensures.away
