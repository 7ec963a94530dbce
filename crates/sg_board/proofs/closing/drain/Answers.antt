use Rattle.std.proofs.Common.{ap, ◌∙◌, arith}
use Rattle.crossbeam_deque.specs.Handles.{worker_view}
use Rattle.sg_board.proofs.Moves.{took_weight}
use Rattle.sg_board.proofs.Weights.{picks, picks_last, finds}
use Rattle.sg_board.proofs.closing.drain.Goals as goal

pub pop_as-requires-clause-fifo : goal.pop_as-requires-clause-fifo
pop_as-requires-clause-fifo g c = let i = c.loop.invariant.parts in λ _. picks g.T.Task.number _ _ 1 (omega (arith, i))

pub pop_as-requires-clause-lifo : goal.pop_as-requires-clause-lifo
pop_as-requires-clause-lifo g c = let i = c.loop.invariant.parts in λ _. picks_last g.T.Task.number _ _ (omega (arith, i))

pub pop_as-requires-clause-empty : goal.pop_as-requires-clause-empty
pop_as-requires-clause-empty g c = finds g.T.Task.number _ _

pub loop-preserved : goal.loop-preserved
loop-preserved g c = let i = c.loop.invariant in let r = c.in-Some-pop_as.ensures.rule in record {
  parts = ap (λ v. v.parts) r ∙ i.parts;
  given = λ h. (took_weight (worker_view c.loop.owner) (worker_view c.pop_as.new.self) _ _ r h).1 ∙ i.given h;
  taken = λ h. let t = took_weight (worker_view c.loop.owner) (worker_view c.pop_as.new.self) _ _ r h in let s = c.settle.ensures h in omega (arith, t.0, s, i.taken h);
}
