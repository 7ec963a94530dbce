use Rattle.std.proofs.Common.{◌≡◌, ◌∷◌, ◌++◌, [], List, Some, ap, ◌∙◌, sym, arith}
use Rattle.std.proofs.lemmas.List.Elements.{All-pop}
use Rattle.crossbeam_deque.specs.Handles.{view, worker_view, worker_deque, stealer_deque}
use Rattle.sg_board.specs.Shapes.{DequeId}
use Rattle.sg_board.specs.Shares.{ways, ways_taken, ways_given}
use Rattle.sg_board.specs.Weighing.{given_by, taken_by}
use Rattle.sg_board.proofs.Sums.{last_of, all_pushed, adds_snoc, total_snoc, joined_weight}
use Rattle.sg_board.proofs.closing.absorb_ways.Goals as goal

pub absorb_way-requires : goal.absorb_way-requires
absorb_way-requires g c = let i = c.loop-more.invariant in
    let p = (All-pop (λ w. (ds : List DequeId) × (ways w.items ≡ ds ++ worker_deque c.args.owner.now ∷ [])) c.loop-more.left.items c.pop.new.self.items (Some c.in-Some.more) c.in-Some.ensures.items i.last).1 in
    ((last_of (λ t. stealer_deque t.stealer) c.in-Some.more.items c.pop-in-Some.new.self.items c.in-Some-pop.thief p.0 (worker_deque c.args.owner.now) c.in-Some-pop.ensures.items p.1).1 ∙ sym i.owner.0, i.owner.1)

pub loop-more-preserved : goal.loop-more-preserved
loop-more-preserved g c = let i = c.loop-more.invariant in let v = c.absorb_way.ensures.view in let parts = ap (λ v. v.parts) v in let left = c.in-Some.ensures in let last = c.in-Some-pop.ensures.items in let spare = c.push_reserved.ensures in
    record {
      owner = (c.absorb_way.ensures.same ∙ i.owner.0, omega (arith, parts), omega (arith, i.owner.2, parts, left.len));
      room = (omega (arith, i.room.0, left.len, spare.len), spare.capacity ∙ i.room.1, left.capacity ∙ i.room.2);
      last = (All-pop (λ w. (ds : List DequeId) × (ways w.items ≡ ds ++ worker_deque c.args.owner.now ∷ [])) c.loop-more.left.items c.pop.new.self.items (Some c.in-Some.more) left.items i.last).0;
      ways = λ ds all.
          let j = i.ways ds all in
          let p = All-pop (λ w. ways w.items ≡ ds ++ worker_deque c.args.owner.now ∷ []) c.loop-more.left.items c.pop.new.self.items (Some c.in-Some.more) left.items j.0 in
          (p.0, all_pushed (λ w. ways w.items ≡ ds) c.push_reserved.new.self.items c.loop-more.spare.items c.pop-in-Some.new.self spare.items j.1 (last_of (λ t. stealer_deque t.stealer) c.in-Some.more.items c.pop-in-Some.new.self.items c.in-Some-pop.thief ds (worker_deque c.args.owner.now) last p.1).0);
      taken = λ h.
          let a = adds_snoc (λ w. ways_taken h w.items) c.loop-more.left.items c.pop.new.self.items c.in-Some.more left.items in
          let b = adds_snoc (λ w. ways_taken h w.items) c.push_reserved.new.self.items c.loop-more.spare.items c.pop-in-Some.new.self spare.items in
          let t = total_snoc (taken_by h) (λ t. view t.pass) c.in-Some.more.items c.pop-in-Some.new.self.items c.in-Some-pop.thief last in
          let w = joined_weight (worker_view c.loop-more.owner) (view c.in-Some-pop.thief.pass) (worker_view c.absorb_way.new.owner) _ _ v h in
          omega (arith, i.taken h, a, b, t, w.0);
      given = λ h.
          let a = adds_snoc (λ w. ways_given h w.items) c.loop-more.left.items c.pop.new.self.items c.in-Some.more left.items in
          let b = adds_snoc (λ w. ways_given h w.items) c.push_reserved.new.self.items c.loop-more.spare.items c.pop-in-Some.new.self spare.items in
          let t = total_snoc (given_by h) (λ t. view t.pass) c.in-Some.more.items c.pop-in-Some.new.self.items c.in-Some-pop.thief last in
          let w = joined_weight (worker_view c.loop-more.owner) (view c.in-Some-pop.thief.pass) (worker_view c.absorb_way.new.owner) _ _ v h in
          omega (arith, i.given h, a, b, t, w.1);
    }

pub returns-clause-ways : goal.returns-clause-ways
returns-clause-ways g c = λ ds all. (c.loop-more.invariant.ways ds all).1
