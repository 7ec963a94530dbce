use Rattle.std.proofs.Common.{map, ap, refl, ◌∙◌, arith}
use Rattle.sg_board.specs.Weighing.{weigh}
use Rattle.sg_board.proofs.Laid.{map_reverse}
use Rattle.sg_board.proofs.Moves.{more_kept}
use Rattle.sg_board.proofs.Sums.{weigh_reverse, kept_length}
use Rattle.sg_board.proofs.dealing.deal.Goals as goal

pub loop-task-init : goal.loop-task-init
loop-task-init g c = record {
  moves = record {
    same = refl;
    flow = λ h. let a = ap (λ l. weigh h (map g.T.Task.number l)) c.reverse.ensures.items in let b = ap (weigh h) (map_reverse g.T.Task.number c.args.tasks.items) in let d = weigh_reverse h (map g.T.Task.number c.args.tasks.items) in omega (arith, a, b, d);
  };
  passes = refl;
  len = refl;
}

pub loop-task-preserved : goal.loop-task-preserved
loop-task-preserved g c = let i = c.loop-task.invariant in let e = c.lay_at.ensures in record {
  moves = record {
    same = e.moves.same ∙ i.moves.same;
    flow = λ h. let k = more_kept g.T.Task.number c.pop.new.self.items c.loop-task.left.items c.in-Some.task c.in-Some.ensures.items h in let a = e.moves.flow h in let b = i.moves.flow h in omega (arith, k, a, b);
  };
  passes = e.passes ∙ i.passes;
  len = omega (arith, kept_length (λ x. x.pass) c.lay_at.new.hands.items c.loop-task.hands.items e.passes, c.lay_at.new.hands.ok.0, c.loop-task.hands.ok.0, i.len);
}
