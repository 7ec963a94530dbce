use Rattle.std.proofs.Common.{ap, refl, arith}
use Rattle.crossbeam_deque.specs.Handles.{worker_view}
use Rattle.sg_board.specs.Weighing.{weigh}
use Rattle.sg_board.proofs.Weights.{lays}
use Rattle.sg_board.proofs.Moves.{pushed, more_kept, same_shape}
use Rattle.sg_board.proofs.share.Share.try_lay.Goals as goal

pub push_as-requires-clause-pushes : goal.push_as-requires-clause-pushes
push_as-requires-clause-pushes g c = lays g.T.Task.number _ _ _ c.args.self.now.part

pub returns-in_default : goal.returns-in_default
returns-in_default g c = let e = c.in_default.ensures in record {
  same = same_shape _ _ _ _ _ _ e.same.0 (ap (λ v. v.parts) e.rule.0) refl;
  flow = λ h. let p = pushed g.T.Task.number c.args.task (worker_view c.args.self.now.owner) (worker_view c.push_as.new.self) e.rule.0 h in omega (arith, p.0, p.1);
}

pub returns-in-Ok : goal.returns-in-Ok
returns-in-Ok g c = let e = c.in-Err.ensures in record {
  same = same_shape _ _ _ _ _ _ e.same.0 (ap (λ v. v.parts) e.rule.1) refl;
  flow = λ h. let k = more_kept g.T.Task.number c.args.self.now.kept.items c.push_back.new.self.items c.in-Err.refused c.in-Ok.ensures.items h in let t = ap (λ x. h (g.T.Task.number x)) e.rule.0 in
      let a = ap (λ v. weigh h v.given) e.rule.1 in let b = ap (λ v. weigh h v.taken) e.rule.1 in omega (arith, k, t, a, b);
}
