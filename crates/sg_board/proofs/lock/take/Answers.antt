use Rattle.std.proofs.Common.{sym, subst, ◌<◌}
use Rattle.crossbeam_queue.specs.Passes.{view}
use Rattle.sg_board.proofs.Weights.{takes}
use Rattle.sg_board.proofs.lock.take.Goals as goal

pub try_pop_as-requires-clause-rule : goal.try_pop_as-requires-clause-rule
try_pop_as-requires-clause-rule g c = takes g.B.TaskHolder.numbers _ (view c.loop.pass) (subst (λ v. 0 < v.parts) (sym c.loop.invariant.1) c.requires.pass.1)
