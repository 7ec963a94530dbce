use Rattle.std.proofs.Common.{◌≡◌, ◌+◌, ◌∷◌, [], Some, vec_len, length, map, ap, ◌∙◌, sym, arith}
use Rattle.std.proofs.lemmas.List.Elements.{All-pop, All-weaker}
use Rattle.crossbeam_deque.specs.Handles.{view, worker_view, worker_deque, stealer_deque}
use Rattle.sg_board.specs.Shares.{ways, ways_taken, ways_given}
use Rattle.sg_board.specs.Weighing.{parts_of, given_by, taken_by, all_parts}
use Rattle.sg_board.proofs.Laid.{map_pushed}
use Rattle.sg_board.proofs.Sums.{adds_snoc, adds_none, adds_empty, empty_map, no_total}
use Rattle.sg_board.proofs.closing.close_all.Goals as goal

pub absorb_ways-empty-requires-clause-ways : goal.absorb_ways-empty-requires-clause-ways
absorb_ways-empty-requires-clause-ways g c = λ k d l. (map (λ o. worker_deque o) c.pop.new.self.items, c.loop-owner.invariant.ways k d l ∙ map_pushed (λ o. worker_deque o) c.pop.new.self.items c.loop-owner.left.items c.in-Some.owner c.in-Some.ensures.items)

pub loop-owner-preserved : goal.loop-owner-preserved
loop-owner-preserved g c = let i = c.loop-owner.invariant in let a = c.absorb_ways-empty.ensures in let e = c.in-Some.ensures.items in record {
  room = (a.room.0, omega (arith, a.room.2, a.room.3, i.room.2), omega (arith, a.room.1, a.room.2, i.room.1), a.room.2 ∙ i.room.3);
  parts = (All-pop (λ o. parts_of (worker_view o) + vec_len c.args.all_ways ≡ all_parts) c.loop-owner.left.items c.pop.new.self.items (Some c.in-Some.owner) e i.parts).0;
  ways = a.ways (map (λ o. worker_deque o) c.pop.new.self.items) (λ k d l. i.ways k d l ∙ map_pushed (λ o. worker_deque o) c.pop.new.self.items c.loop-owner.left.items c.in-Some.owner e);
  all = λ h.
      let t = adds_snoc (λ o. taken_by h (worker_view o)) c.loop-owner.left.items c.pop.new.self.items c.in-Some.owner e in
      let f = adds_snoc (λ o. given_by h (worker_view o)) c.loop-owner.left.items c.pop.new.self.items c.in-Some.owner e in
      omega (arith, i.all h, a.taken h, a.given h, c.drain.ensures h, t, f);
}

pub returns : goal.returns
returns g c = λ h.
    let i = c.loop-owner.invariant in
    let none : length c.loop-owner.left.items ≡ 0 = sym c.loop-owner.left.ok.0 ∙ c.in_default.ensures.cases.0 in
    let e = empty_map (λ o. worker_deque o) c.loop-owner.left.items none in
    let t = adds_none (λ w. ways_taken h w.items) c.loop-owner.full.items (λ k d l. no_total (taken_by h) (λ t. view t.pass) (λ t. stealer_deque t.stealer) _ (i.ways k d l ∙ e)) in
    let f = adds_none (λ w. ways_given h w.items) c.loop-owner.full.items (λ k d l. no_total (given_by h) (λ t. view t.pass) (λ t. stealer_deque t.stealer) _ (i.ways k d l ∙ e)) in
    let a = adds_empty (λ o. taken_by h (worker_view o)) c.loop-owner.left.items none in
    let b = adds_empty (λ o. given_by h (worker_view o)) c.loop-owner.left.items none in
    omega (arith, i.all h, t, f, a, b)
