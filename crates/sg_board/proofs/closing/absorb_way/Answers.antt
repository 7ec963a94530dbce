use Rattle.sg_board.proofs.Weights.{gathers}
use Rattle.sg_board.proofs.closing.absorb_way.Goals as goal

pub absorb-requires-clause-rule : goal.absorb-requires-clause-rule
absorb-requires-clause-rule g c = gathers g.T.Task.number _ _ _ _ c.requires.1
