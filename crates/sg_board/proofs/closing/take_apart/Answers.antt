use Rattle.std.proofs.Common.{◌≡◌, ◌+◌, ◌∷◌, [], Some, length, map, ap, refl, ◌∙◌, sym, rules, arith}
use Rattle.std.proofs.lemmas.List.Elements.{All-pop, All-same}
use Rattle.crossbeam_queue.specs.Passes.{view, IsPassOf}
use Rattle.crossbeam_deque.specs.Handles.{worker_view, worker_deque}
use Rattle.sg_board.specs.Places.{numbers_at}
use Rattle.sg_board.specs.Shares.{ways, ways_taken, ways_given, hand_shape, hand_taken, hand_given}
use Rattle.sg_board.specs.Weighing.{adds, parts_of, given_by, taken_by}
use Rattle.sg_board.proofs.Laid.{map_pushed, map_reverse, more_laid, none_left}
use Rattle.sg_board.proofs.Sums.{adds_snoc, adds_empty, adds_reverse, all_pushed, all_reverse, joined_weight}
use Rattle.sg_board.proofs.Weights.{joins}
use Rattle.sg_board.proofs.closing.take_apart.Goals as goal

pub absorb-requires-clause-rule : goal.absorb-requires-clause-rule
absorb-requires-clause-rule g c = joins (λ b. numbers_at g.T.Task.number b.places.places.items) _ (view c.loop-hand.pass) _ (view c.in-Some.hand.pass) c.loop-hand.invariant.pass.1

pub loop-hand-preserved : goal.loop-hand-preserved
loop-hand-preserved g c = let i = c.loop-hand.invariant in let e = c.in-Some.ensures in let rule = c.absorb.ensures.rule in let own = c.push_reserved.ensures in let more = c.push_reserved-in-Some.ensures in
    let free = c.in-Some.hand.free in let parts = ap (λ v. v.parts) rule in let boards = ap (λ v. v.boards) rule in
    record {
      pass = (search rules, omega (arith, parts, i.pass.1), omega (arith, parts, free.parts, i.pass.2, e.len), omega (arith, boards, free.boards, i.pass.3));
      passes = (All-pop (λ x. IsPassOf c.args.lock.now x.pass) c.loop-hand.left.items c.pop.new.self.items (Some c.in-Some.hand) e.items i.passes).0;
      room = (omega (arith, i.room.0, e.len, own.len), omega (arith, i.room.1, e.len, more.len), own.capacity ∙ i.room.2, more.capacity ∙ i.room.3);
      owners = more_laid (λ x. (hand_shape x).own) c.loop-hand.left.items c.pop.new.self.items c.in-Some.hand (map (λ o. worker_deque o) c.loop-hand.owners.items) (map (λ o. worker_deque o) c.push_reserved.new.self.items) (worker_deque c.in-Some.hand.share.owner) _ e.items (map_pushed (λ o. worker_deque o) c.loop-hand.owners.items c.push_reserved.new.self.items c.in-Some.hand.share.owner own.items) refl i.owners;
      parts = λ k all.
          let j = i.parts k all in
          let p = All-pop (λ x. (hand_shape x).parts ≡ k) c.loop-hand.left.items c.pop.new.self.items (Some c.in-Some.hand) e.items j.0 in
          (p.0, all_pushed (λ o. parts_of (worker_view o) ≡ k) c.push_reserved.new.self.items c.loop-hand.owners.items c.in-Some.hand.share.owner own.items j.1 p.1);
      ways = λ ds all.
          let j = i.ways ds all in
          let p = All-pop (λ x. (hand_shape x).ways ≡ ds) c.loop-hand.left.items c.pop.new.self.items (Some c.in-Some.hand) e.items j.0 in
          (p.0, all_pushed (λ w. ways w.items ≡ ds) c.push_reserved-in-Some.new.self.items c.loop-hand.all_ways.items c.in-Some.hand.share.thieves more.items j.1 p.1);
      all = λ h.
          let w = joined_weight (view c.loop-hand.pass) (view c.in-Some.hand.pass) (view c.absorb.new.pass) _ _ rule h in
          let a = adds_snoc (λ x. hand_taken x h) c.loop-hand.left.items c.pop.new.self.items c.in-Some.hand e.items in
          let b = adds_snoc (λ x. hand_given g.T.Task.number x h) c.loop-hand.left.items c.pop.new.self.items c.in-Some.hand e.items in
          let d = adds_snoc (λ o. taken_by h (worker_view o)) c.push_reserved.new.self.items c.loop-hand.owners.items c.in-Some.hand.share.owner own.items in
          let f = adds_snoc (λ o. given_by h (worker_view o)) c.push_reserved.new.self.items c.loop-hand.owners.items c.in-Some.hand.share.owner own.items in
          let p = adds_snoc (λ w. ways_taken h w.items) c.push_reserved-in-Some.new.self.items c.loop-hand.all_ways.items c.in-Some.hand.share.thieves more.items in
          let q = adds_snoc (λ w. ways_given h w.items) c.push_reserved-in-Some.new.self.items c.loop-hand.all_ways.items c.in-Some.hand.share.thieves more.items in
          omega (arith, i.all h, w.0, w.1, a, b, d, f, p, q, c.lay_kept.ensures h);
    }

pub returns-clause-owners : goal.returns-clause-owners
returns-clause-owners g c = none_left (λ x. (hand_shape x).own) c.loop-hand.left.items (map (λ o. worker_deque o) c.loop-hand.owners.items) (map (λ o. worker_deque o) c.reverse.new.self.items) _ (sym c.loop-hand.left.ok.0 ∙ c.in_default.ensures.cases.0) (ap (map (λ o. worker_deque o)) c.reverse.ensures.items ∙ map_reverse (λ o. worker_deque o) c.loop-hand.owners.items) c.loop-hand.invariant.owners

pub returns-clause-parts : goal.returns-clause-parts
returns-clause-parts g c = λ k all. All-same (λ o. parts_of (worker_view o) ≡ k) c.reverse.new.self.items _ c.reverse.ensures.items (all_reverse (λ o. parts_of (worker_view o) ≡ k) c.loop-hand.owners.items (c.loop-hand.invariant.parts k all).1)

pub returns-clause-ways : goal.returns-clause-ways
returns-clause-ways g c = λ ds all. (c.loop-hand.invariant.ways ds all).1

pub returns-clause-all : goal.returns-clause-all
returns-clause-all g c = λ h.
    let i = c.loop-hand.invariant in
    let none : length c.loop-hand.left.items ≡ 0 = sym c.loop-hand.left.ok.0 ∙ c.in_default.ensures.cases.0 in
    let a = adds_empty (λ x. hand_taken x h) c.loop-hand.left.items none in
    let b = adds_empty (λ x. hand_given g.T.Task.number x h) c.loop-hand.left.items none in
    let d = ap (adds (λ o. taken_by h (worker_view o))) c.reverse.ensures.items ∙ adds_reverse (λ o. taken_by h (worker_view o)) c.loop-hand.owners.items in
    let f = ap (adds (λ o. given_by h (worker_view o))) c.reverse.ensures.items ∙ adds_reverse (λ o. given_by h (worker_view o)) c.loop-hand.owners.items in
    omega (arith, i.all h, a, b, d, f)
