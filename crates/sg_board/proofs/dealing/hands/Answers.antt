use Rattle.std.proofs.Common.{◌≡◌, ◌-◌, ◌∷◌, [], Some, map, vec_len, ap, refl, ◌∙◌, sym, rules, arith}
use Rattle.std.proofs.lemmas.List.Elements.{All-pop, All-same}
use Rattle.crossbeam_queue.specs.Passes.{view, IsPassOf}
use Rattle.crossbeam_deque.specs.Handles.{worker_view, worker_deque}
use Rattle.sg_board.specs.Places.{numbers_at}
use Rattle.sg_board.specs.declared.worker_view.WorkerView.{WorkerView}
use Rattle.sg_board.specs.Shares.{AreNew, hand_shape, hand_taken, hand_given}
use Rattle.sg_board.specs.Weighing.{weigh, adds, account, all_parts}
use Rattle.sg_board.proofs.Laid.{map_pushed, map_reverse, more_laid, none_left}
use Rattle.sg_board.proofs.Sums.{adds_snoc, adds_reverse, all_pushed, all_reverse, are_shapes, idle_weight}
use Rattle.sg_board.proofs.Weights.{cuts}
use Rattle.sg_board.proofs.dealing.hands.Goals as goal

pub another-pass-requires-clause-rule : goal.another-pass-requires-clause-rule
another-pass-requires-clause-rule g c = let i = c.loop-owner.invariant in let e = ap (λ v. v.parts) i.pass.1 in
    cuts (λ b. numbers_at g.T.Task.number b.places.places.items) _ (view c.loop-owner.pass) (omega (arith, e, i.count.0, c.requires.pass.2, c.in-Some.ensures.len))

pub invariant_of-share : goal.invariant_of-share
invariant_of-share g c = let i = c.loop-owner.invariant in
    let o = (All-pop (λ o. worker_view o ≡ account (all_parts - vec_len c.args.owners) [] [] 0) c.loop-owner.left.items c.pop.new.self.items (Some c.in-Some.owner) c.in-Some.ensures.items i.owners).1 in
    record { part = omega (arith, ap (λ v. v.parts) o, c.requires.pass.2) }

pub loop-owner-preserved : goal.loop-owner-preserved
loop-owner-preserved g c = let i = c.loop-owner.invariant in let e = c.in-Some.ensures in let w = c.in-Some-pop.ensures in let push = c.in_ok-push.ensures in let r = c.another-pass.ensures.rule in
    let o = All-pop (λ o. worker_view o ≡ account (all_parts - vec_len c.args.owners) [] [] 0) c.loop-owner.left.items c.pop.new.self.items (Some c.in-Some.owner) e.items i.owners in
    let n = All-pop (λ w. AreNew (map (λ o. worker_deque o) c.args.owners.items) w.items) c.loop-owner.ways_left.items c.pop-in-Some.new.self.items (Some c.in-Some-pop.thieves) w.items i.ways in
    let less : all_parts - vec_len c.loop-owner.hands - 1 ≡ all_parts - vec_len c.push.new.self = omega (arith, push.len) in
    record {
      pass = (search rules, r.0 ∙ ap (λ (u : WorkerView). account (u.parts - 1) u.given u.taken u.boards) i.pass.1 ∙ ap (λ p. account p (view c.args.pass.now).given (view c.args.pass.now).taken (view c.args.pass.now).boards) less);
      passes = all_pushed (λ x. IsPassOf c.args.lock.now x.pass) c.push.new.self.items c.loop-owner.hands.items _ push.items i.passes (search rules);
      count = (omega (arith, i.count.0, e.len, push.len), omega (arith, i.count.1, e.len, w.len));
      owners = o.0;
      ways = n.0;
      shapes = all_pushed (λ x. ((hand_shape x).ways ≡ map (λ o. worker_deque o) c.args.owners.items) × ((hand_shape x).parts ≡ all_parts - vec_len c.args.owners)) c.push.new.self.items c.loop-owner.hands.items _ push.items i.shapes (n.1.ways, ap (λ v. v.parts) o.1);
      own = more_laid (λ o. worker_deque o) c.loop-owner.left.items c.pop.new.self.items c.in-Some.owner (map (λ x. (hand_shape x).own) c.loop-owner.hands.items) (map (λ x. (hand_shape x).own) c.push.new.self.items) (worker_deque c.in-Some.owner) _ e.items (map_pushed (λ x. (hand_shape x).own) c.loop-owner.hands.items c.push.new.self.items _ push.items) refl i.own;
      none = λ h.
          let a = adds_snoc (λ x. hand_taken x h) c.push.new.self.items c.loop-owner.hands.items _ push.items in
          let b = adds_snoc (λ x. hand_given g.T.Task.number x h) c.push.new.self.items c.loop-owner.hands.items _ push.items in
          let q = idle_weight (view c.another-pass.result) _ _ r.1 h in
          let z = idle_weight (worker_view c.in-Some.owner) _ _ o.1 h in
          let k = ap (λ l. weigh h (map g.T.Task.number l)) c.in_ok-kept.ensures.items in
          (omega (arith, (i.none h).0, a, q.0, z.0, n.1.taken h), omega (arith, (i.none h).1, b, q.1, z.1, n.1.given h, k));
    }

pub returns-clause-hands : goal.returns-clause-hands
returns-clause-hands g c = let i = c.loop-owner.invariant in let e = c.reverse.ensures.items in
    let own = none_left (λ o. worker_deque o) c.loop-owner.left.items (map (λ x. (hand_shape x).own) c.loop-owner.hands.items) (map (λ x. (hand_shape x).own) c.reverse.new.self.items) _ (sym c.loop-owner.left.ok.0 ∙ c.in_default.ensures.cases.0) (ap (map (λ x. (hand_shape x).own)) e ∙ map_reverse (λ x. (hand_shape x).own) c.loop-owner.hands.items) i.own in (
      omega (arith, i.count.0, c.reverse.ensures.len, c.in_default.ensures.cases.0),
      All-same (λ x. IsPassOf c.args.lock.now x.pass) c.reverse.new.self.items _ e (all_reverse (λ x. IsPassOf c.args.lock.now x.pass) c.loop-owner.hands.items i.passes),
      are_shapes (λ x. hand_shape x) (vec_len c.args.owners) c.reverse.new.self.items c.requires.pass.2
          (All-same (λ x. ((hand_shape x).ways ≡ map (λ x. (hand_shape x).own) c.reverse.new.self.items) × ((hand_shape x).parts ≡ all_parts - vec_len c.args.owners)) c.reverse.new.self.items _ e
          (all_reverse (λ x. ((hand_shape x).ways ≡ map (λ x. (hand_shape x).own) c.reverse.new.self.items) × ((hand_shape x).parts ≡ all_parts - vec_len c.args.owners)) c.loop-owner.hands.items
          (λ k d l. ((i.shapes k d l).0 ∙ sym own, (i.shapes k d l).1)))),
    )

pub returns-clause-none : goal.returns-clause-none
returns-clause-none g c = λ h. let n = c.loop-owner.invariant.none h in let e = c.reverse.ensures.items in (
  ap (adds (λ x. hand_taken x h)) e ∙ adds_reverse (λ x. hand_taken x h) c.loop-owner.hands.items ∙ n.0,
  ap (adds (λ x. hand_given g.T.Task.number x h)) e ∙ adds_reverse (λ x. hand_given g.T.Task.number x h) c.loop-owner.hands.items ∙ n.1,
)
