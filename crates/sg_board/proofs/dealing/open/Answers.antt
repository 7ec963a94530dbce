use Rattle.std.proofs.Common.{◌≡◌, ◌-◌, [], All, map, subst, ap, ◌∙◌, sym, arith}
use Rattle.crossbeam_deque.specs.Handles.{worker_view, worker_deque}
use Rattle.sg_board.specs.Shares.{AreNew}
use Rattle.sg_board.specs.Weighing.{account, all_parts}
use Rattle.sg_board.proofs.Laid.{map_pushed}
use Rattle.sg_board.proofs.Sums.{all_pushed}
use Rattle.sg_board.proofs.dealing.open.Goals as goal

pub loop-worker-preserved : goal.loop-worker-preserved
loop-worker-preserved g c = let i = c.loop-worker.invariant in let o = c.in_ok-owner.ensures in let push = c.in_ok-push.ensures in record {
  owners = all_pushed (λ o. worker_view o ≡ account (all_parts - c.args.workers) [] [] 0) c.push.new.self.items c.loop-worker.owners.items c.in_ok-owner.owner push.items i.owners (o.owner ∙ ap (λ n. account (all_parts - n) [] [] 0) i.count.1);
  count = (omega (arith, i.count.0, push.len), o.count ∙ i.count.1);
  ways = subst (λ ds. All (λ w. AreNew ds w.items) c.in_ok-owner.more.items) (sym (map_pushed (λ o. worker_deque o) c.loop-worker.owners.items c.push.new.self.items c.in_ok-owner.owner push.items)) (o.ways (map (λ o. worker_deque o) c.loop-worker.owners.items) i.ways);
}
