use Rattle.std.proofs.Common.{◌≡◌, ◌<◌, ◌+◌, subst, sym, ap, ◌∙◌, vec_len, arith}
use Rattle.crossbeam_queue.specs.Passes.{view, IsPassOf}
use Rattle.sg_board.specs.Places.{numbers_at}
use Rattle.sg_board.specs.Shapes.{AreShapes}
use Rattle.sg_board.specs.Shares.{hand_shapes}
use Rattle.sg_board.specs.Weighing.{weigh, given_by, taken_by, all_parts}
use Rattle.sg_board.proofs.Laid.{counted_length}
use Rattle.sg_board.proofs.Moves.{took_weight, gave_weight}
use Rattle.sg_board.proofs.Sums.{idle_weight, kept_all, kept_length}
use Rattle.sg_board.proofs.Weights.{totals}
use Rattle.sg_board.proofs.workers.run.Goals as goal

pub new-requires : goal.new-requires
new-requires g c = omega (arith, c.len-count.ensures, c.args.tasks.ok.0, counted_length g.T.Task.number 0 g.T.Task.total c.args.tasks.items c.requires.numbered)

pub work_all-requires-clause-passes : goal.work_all-requires-clause-passes
work_all-requires-clause-passes g c κs within = kept_all (λ x. x.pass) (λ p. IsPassOf c.in_ok-made.made.0 p) c.deal.new.hands.items c.in_ok-hands.hands.items c.deal.ensures.passes c.in_ok-hands.ensures.hands.1

pub gather_up-requires-clause-hands : goal.gather_up-requires-clause-hands
gather_up-requires-clause-hands g c = let n = c.in_ok-hands.ensures.hands in let w = c.in_ok-hands-2.ensures in let o = c.in_ok-owners.ensures.count in
    let len : vec_len c.in_ok-hands-2.hands ≡ vec_len c.in_ok-owners.owners = omega (arith, c.in_ok-hands-2.ensures.passes.0, c.in_ok-hands.ensures.hands.0, c.in_ok-owners.ensures.count.0, kept_length (λ x. x.pass) c.deal.new.hands.items c.in_ok-hands.hands.items c.deal.ensures.passes, c.deal.new.hands.ok.0, c.in_ok-hands.hands.ok.0) in (
      w.passes.1,
      subst (λ ss. AreShapes (vec_len c.in_ok-hands-2.hands) ss) (sym (w.moves.same ∙ c.deal.ensures.moves.same)) (subst (λ k. AreShapes k (hand_shapes c.in_ok-hands.hands.items)) (sym len) n.2),
      omega (arith, len, o.0, c.ranges.workers),
    )

pub gather_up-requires-clause-room : goal.gather_up-requires-clause-room
gather_up-requires-clause-room g c = let o = c.in_ok-owners.ensures.count in
    let len : vec_len c.in_ok-hands-2.hands ≡ vec_len c.in_ok-owners.owners = omega (arith, c.in_ok-hands-2.ensures.passes.0, c.in_ok-hands.ensures.hands.0, c.in_ok-owners.ensures.count.0, kept_length (λ x. x.pass) c.deal.new.hands.items c.in_ok-hands.hands.items c.deal.ensures.passes, c.deal.new.hands.ok.0, c.in_ok-hands.hands.ok.0) in
    (c.in_ok-owner_room.ensures.items, c.in_ok-way_room.ensures.items, c.in_ok-spare.ensures.items, omega (arith, len, o.0, c.in_ok-owner_room.ensures.exact), omega (arith, len, o.0, c.in_ok-way_room.ensures.exact), omega (arith, len, o.0, c.in_ok-spare.ensures.exact))

pub learn_as-requires-clause-rule : goal.learn_as-requires-clause-rule
learn_as-requires-clause-rule g c = totals (λ b. numbers_at g.T.Task.number b.places.places.items) _ (view c.gather_up.new.pass)

pub into_tasks-requires-clause-back : goal.into_tasks-requires-clause-back
into_tasks-requires-clause-back g c = λ h.
    let len : vec_len c.in_ok-hands-2.hands ≡ vec_len c.in_ok-owners.owners = omega (arith, c.in_ok-hands-2.ensures.passes.0, c.in_ok-hands.ensures.hands.0, c.in_ok-owners.ensures.count.0, kept_length (λ x. x.pass) c.deal.new.hands.items c.in_ok-hands.hands.items c.deal.ensures.passes, c.deal.new.hands.ok.0, c.in_ok-hands.hands.ok.0) in
    let few : vec_len c.in_ok-owners.owners < all_parts = omega (arith, c.in_ok-owners.ensures.count.0, c.ranges.workers) in
    let n = c.in_ok-hands.ensures in let all = c.gather_up.ensures in
    let first = idle_weight (view c.in_ok-made.made.1) _ _ c.in_ok-made.ensures.3 h in
    let begun = ap (λ v. weigh h v.taken) n.pass.1 in
    let laid = ap (λ v. weigh h v.given) n.pass.1 in
    let gave = gave_weight (view c.hands.new.pass) (view c.give.new.pass) _ 0 c.give.ensures.gave h in
    let took = took_weight (view c.give.new.pass) (view c.take-board.new.pass) _ 1 c.take-board.ensures.took h in
    let parts : (view c.gather_up.new.pass).parts ≡ all_parts = omega (arith, ap (λ v. v.parts) n.pass.1, ap (λ v. v.parts) c.give.ensures.gave, ap (λ v. v.parts) c.take-board.ensures.took, all.pass.1, len, few) in
    let boards : (view c.gather_up.new.pass).boards ≡ 1 = all.pass.2 ∙ ap (λ v. v.boards) c.take-board.ensures.took in
    let even = c.learn_as.ensures.rule.1 boards parts h in
    let empty = ap (weigh h) c.in_ok-board.ensures in
    omega (arith, first.0, first.1, begun, laid, gave.0, gave.1, took.0, took.1, even, empty, all.all h, c.deal.ensures.moves.flow h, c.in_ok-hands-2.ensures.moves.flow h, (n.none h).0, (n.none h).1, ap (weigh h) c.requires.numbered)

pub into_tasks-requires-clause-room : goal.into_tasks-requires-clause-room
into_tasks-requires-clause-room g c = (c.in_ok-room.ensures.items, omega (arith, c.in_ok-room.ensures.exact, c.len-count.ensures, c.args.tasks.ok.0, counted_length g.T.Task.number 0 g.T.Task.total c.args.tasks.items c.requires.numbered))
