use Rattle.std.proofs.Common.{◌∙◌, ap, arith}
use Rattle.sg_board.proofs.workers.work_once.Goals as goal

pub returns-clause-moves : goal.returns-clause-moves
returns-clause-moves g c = let n = c.in-Some.ensures in let p = c.put_back-ready.ensures.moves in record {
  same = p.same ∙ n.same;
  flow = λ h. let a = n.flow h in let b = p.flow h in let t = ap h c.run_on-task.ensures in omega (arith, a, b, t);
}
