use Rattle.std.proofs.Common.{◌∙◌, arith}
use Rattle.sg_board.proofs.workers.work.Goals as goal

pub loop-preserved : goal.loop-preserved
loop-preserved g c = let i = c.loop.invariant.moves in let e = c.work_once.ensures.moves in record {
  pass = c.work_once.ensures.pass;
  moves = record { same = e.same ∙ i.same; flow = λ h. let a = e.flow h in let b = i.flow h in omega (arith, a, b) };
}
