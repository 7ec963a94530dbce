use Rattle.std.proofs.Common.{◌≡◌, map, vec_len}
use Rattle.sg_board.specs.Shares.{HandsMove}
use Rattle.sg_board.specs.Weighing.{weigh}
use Rattle.sg_board.proofs.dealing.deal.Given as goal

abbrev pub invariant-loop-task : goal.invariant-loop-task
invariant-loop-task g l = record {
  moves : HandsMove g.T.Task.number l.fn.hands.items l.hands.items (λ h. weigh h (map g.T.Task.number l.fn.tasks.items)) (λ h. weigh h (map g.T.Task.number l.left.items));
  passes : map (λ x. x.pass) l.hands.items ≡ map (λ x. x.pass) l.fn.hands.items;
  len : vec_len l.hands ≡ vec_len l.fn.hands;
}

abbrev pub decreases-loop-task : goal.decreases-loop-task
decreases-loop-task g l = vec_len l.left
