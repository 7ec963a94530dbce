use Rattle.std.proofs.Common.{None, refl, arith}
use Rattle.crossbeam_deque.specs.Handles.{worker_view, worker_deque}
use Rattle.sg_board.proofs.Weights.{picks, picks_last, finds}
use Rattle.sg_board.proofs.Moves.{popped, popped_parts, fewer_kept, same_shape}
use Rattle.sg_board.proofs.share.Share.take_own.Goals as goal

pub pop_as-requires-clause-fifo : goal.pop_as-requires-clause-fifo
pop_as-requires-clause-fifo g c = λ _. picks g.T.Task.number _ _ 1 c.args.self.now.part

pub pop_as-requires-clause-lifo : goal.pop_as-requires-clause-lifo
pop_as-requires-clause-lifo g c = λ _. picks_last g.T.Task.number _ _ c.args.self.now.part

pub pop_as-requires-clause-empty : goal.pop_as-requires-clause-empty
pop_as-requires-clause-empty g c = finds g.T.Task.number _ _

pub returns : goal.returns
returns g c = let e = c.pop_as.ensures in record {
  same = same_shape (worker_deque c.pop_as.new.self) (worker_deque c.args.self.now.owner) _ _ _ _ e.same.0.0 (popped_parts g.T.Task.number _ c.pop_as.result (worker_view c.args.self.now.owner) (worker_view c.pop_as.new.self) e.rule) refl;
  flow = λ h. let p = popped g.T.Task.number _ c.pop_as.result (worker_view c.args.self.now.owner) (worker_view c.pop_as.new.self) e.rule h in let k = fewer_kept g.T.Task.number None c.args.self.now.kept.items c.pop_front.new.self.items c.in_default.ensures.items h in omega (arith, p.0, p.1, k);
}
