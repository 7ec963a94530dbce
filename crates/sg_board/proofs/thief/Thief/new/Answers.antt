use Rattle.sg_board.proofs.Weights.{shares}
use Rattle.sg_board.proofs.thief.Thief.new.Goals as goal

pub another-pass-requires : goal.another-pass-requires
another-pass-requires g c = shares g.T.Task.number _ _ c.requires
