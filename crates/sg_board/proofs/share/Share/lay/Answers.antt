use Rattle.std.proofs.Common.{refl, ap, ◌∙◌, arith}
use Rattle.sg_board.proofs.share.Share.lay.Goals as goal

pub loop-init : goal.loop-init
loop-init g c = record { task = refl; moves = record { same = refl; flow = λ h. refl } }

pub returns-in_default : goal.returns-in_default
returns-in_default g c = let i = c.loop.invariant in let e = c.in_default.ensures in record {
  same = e.same ∙ i.moves.same;
  flow = λ h. let a = e.flow h in let b = i.moves.flow h in let t = ap (λ x. h (g.T.Task.number x)) i.task in omega (arith, a, b, t);
}

pub loop-preserved : goal.loop-preserved
loop-preserved g c = let i = c.loop.invariant in let e = c.in-Err.ensures in record {
  task = e.0 ∙ i.task;
  moves = record { same = e.1.same ∙ i.moves.same; flow = λ h. let a = e.1.flow h in let b = i.moves.flow h in omega (arith, a, b) };
}
