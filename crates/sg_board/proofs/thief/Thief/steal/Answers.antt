use Rattle.std.proofs.Common.{arith}
use Rattle.sg_board.proofs.Weights.{picks}
use Rattle.sg_board.proofs.thief.Thief.steal.Goals as goal

pub steal_as-requires-clause-takes : goal.steal_as-requires-clause-takes
steal_as-requires-clause-takes g c = picks g.T.Task.number _ _ 1 (omega (arith, c.args.self.now.part))
