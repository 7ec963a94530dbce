use Rattle.std.proofs.Common.{◌≡◌, ◌<◌, ◌+◌, ◌∷◌, length, drop, refl, sym, ◌∙◌, arith}
use Rattle.sg_state.specs.Held.{state_of}
use Rattle.sg_engine.specs.Keyed.{wanting_by}
use Rattle.sg_engine.specs.declared.work.Work.{Work}
use Rattle.sg_engine.specs.Tree.{place_of, left_of, ListsOn}
use Rattle.sg_engine.proofs.Listing.{lists_same, lists_chain}
use Rattle.sg_engine.proofs.Looking.{queue_at, next_is}
use Rattle.sg_engine.proofs.Running.{each_left, taken}
use Rattle.sg_engine.proofs.Taking.{past, taken_keeps}
use Rattle.sg_engine.proofs.explore.explore_next.Goals as goal

pub loop-tree-init : goal.loop-tree-init
loop-tree-init g c = ((λ q ps s. s), lists_same c.args.tree.now, (λ a. a), refl, refl)

pub take-requires-clause-tree : goal.take-requires-clause-tree
take-requires-clause-tree g c =
    let q = c.requires.stands.0 in
    let t = c.loop-tree.tree in
    let w = c.index-w.result.now in
    let fits : t.next < length t.queue.items = omega (arith, c.loop-tree-test.true, c.len.ensures, t.queue.ok.0) in
    let head : drop t.next t.queue.items ≡ w ∷ drop (t.next + 1) t.queue.items = queue_at t.queue.items t.next w fits c.index-w.ensures in
    let k = taken c.args.h.now (wanting_by g.I.Instance.wants g.I.Instance.datum_key g.I.Instance.pred_key c.args.pred.now) c.requires.stands.1 q t w head fits (c.loop-tree.invariant.0 q c.requires.stands.1 c.requires.stands.2) in
    (q.expr, ((k.0).2, k.1))

pub take-requires-clause-there : goal.take-requires-clause-there
take-requires-clause-there g c =
    let q = c.requires.stands.0 in
    let t = c.loop-tree.tree in
    let w = c.index-w.result.now in
    let fits : t.next < length t.queue.items = omega (arith, c.loop-tree-test.true, c.len.ensures, t.queue.ok.0) in
    let head : drop t.next t.queue.items ≡ w ∷ drop (t.next + 1) t.queue.items = queue_at t.queue.items t.next w fits c.index-w.ensures in
    let s = c.loop-tree.invariant.0 q c.requires.stands.1 c.requires.stands.2 in
    next_is (λ (w : Work). place_of w < length t.nodes.items) t.blocked.items t.queue.items (left_of t) t.next w head refl ((s.0).2).left_in

pub loop-tree-preserved : goal.loop-tree-preserved
loop-tree-preserved g c =
    let h = state_of c.args.h.now in
    let k0 = wanting_by g.I.Instance.wants g.I.Instance.datum_key g.I.Instance.pred_key c.args.pred.now in
    let t = c.loop-tree.tree in
    let v = c.take.new.tree in
    let w = c.index-w.result.now in
    let fits : t.next < length t.queue.items = omega (arith, c.loop-tree-test.true, c.len.ensures, t.queue.ok.0) in
    let head : drop t.next t.queue.items ≡ w ∷ drop (t.next + 1) t.queue.items = queue_at t.queue.items t.next w fits c.index-w.ensures in
    let x = c.in_ok-take.ensures in
    let lists : ListsOn t v = record { start = x.lists.start; nodes = x.lists.nodes; queue = x.lists.queue; blocked = x.lists.blocked; found = x.lists.found } in
    let r = c.requires.stands in
    let placed = each_left (λ (w : Work). place_of w < length t.nodes.items) t.blocked.items (drop t.next t.queue.items) (((c.loop-tree.invariant.0 r.0 r.1 r.2).0).2).left_in in
    let aside = rw c.if-branch.false at x.taken in (
      (λ q ps s.
          let k = taken c.args.h.now k0 ps q t w head fits (c.loop-tree.invariant.0 q ps s) in
          let p = x.stands q (k.0).0 (k.0).1 ((k.0).2, k.1) (k.0).3 in
          (((k.0).0 ∙ sym x.lists.start, (k.0).1, (p.0).0, p.1, (λ y. p.2 ((k.0).4 y))), (p.0).1)),
      lists_chain c.args.tree.now t v c.loop-tree.invariant.1 lists,
      (λ a. taken_keeps h w (past t) v _ x.lists.start placed x.taken (c.loop-tree.invariant.2 a)),
      aside.5 ∙ c.loop-tree.invariant.3,
      aside.6 ∙ c.loop-tree.invariant.4,
    )

pub loop-tree-smaller : goal.loop-tree-smaller
loop-tree-smaller g c =
    let t = c.loop-tree.tree in
    let fits : t.next < length t.queue.items = omega (arith, c.loop-tree-test.true, c.len.ensures, t.queue.ok.0) in
    let aside = rw c.if-branch.false at c.in_ok-take.ensures.taken in
    rw aside.3 (omega (arith, aside.4, fits))

pub returns-then-branch-clause-stands : goal.returns-then-branch-clause-stands
returns-then-branch-clause-stands g c = λ q ps s.
    let h = state_of c.args.h.now in
    let k0 = wanting_by g.I.Instance.wants g.I.Instance.datum_key g.I.Instance.pred_key c.args.pred.now in
    let t = c.loop-tree.tree in
    let w = c.index-w.result.now in
    let fits : t.next < length t.queue.items = omega (arith, c.loop-tree-test.true, c.len.ensures, t.queue.ok.0) in
    let head : drop t.next t.queue.items ≡ w ∷ drop (t.next + 1) t.queue.items = queue_at t.queue.items t.next w fits c.index-w.ensures in
    let x = c.in_ok-take.ensures in
    let k = taken c.args.h.now k0 ps q t w head fits (c.loop-tree.invariant.0 q ps s) in
    let p = x.stands q (k.0).0 (k.0).1 ((k.0).2, k.1) (k.0).3 in
    (((k.0).0 ∙ sym x.lists.start, (k.0).1, (p.0).0, p.1, (λ y. p.2 ((k.0).4 y))), (p.0).1)

pub returns-then-branch-clause-blocked : goal.returns-then-branch-clause-blocked
returns-then-branch-clause-blocked g c = λ a.
    let h = state_of c.args.h.now in
    let t = c.loop-tree.tree in
    let x = c.in_ok-take.ensures in
    let r = c.requires.stands in
    let placed = each_left (λ (w : Work). place_of w < length t.nodes.items) t.blocked.items (drop t.next t.queue.items) (((c.loop-tree.invariant.0 r.0 r.1 r.2).0).2).left_in in
    taken_keeps h c.index-w.result.now (past t) c.take.new.tree _ x.lists.start placed x.taken (c.loop-tree.invariant.2 a)

pub returns-then-branch-clause-stepped : goal.returns-then-branch-clause-stepped
returns-then-branch-clause-stepped g c =
    let took = rw c.if-branch.true at c.in_ok-take.ensures.taken in
    omega (arith, took.0, c.loop-tree.invariant.3)

pub returns-then-branch-clause-lists : goal.returns-then-branch-clause-lists
returns-then-branch-clause-lists g c =
    let t = c.loop-tree.tree in
    let v = c.take.new.tree in
    let x = c.in_ok-take.ensures in
    let lists : ListsOn t v = record { start = x.lists.start; nodes = x.lists.nodes; queue = x.lists.queue; blocked = x.lists.blocked; found = x.lists.found } in
    lists_chain c.args.tree.now t v c.loop-tree.invariant.1 lists

pub returns-in_err-take-clause-lists : goal.returns-in_err-take-clause-lists
returns-in_err-take-clause-lists g c =
    let t = c.loop-tree.tree in
    let v = c.take.new.tree in
    let x = c.take.ensures in
    let lists : ListsOn t v = record { start = x.lists.start; nodes = x.lists.nodes; queue = x.lists.queue; blocked = x.lists.blocked; found = x.lists.found } in
    lists_chain c.args.tree.now t v c.loop-tree.invariant.1 lists

pub returns-clause-stands : goal.returns-clause-stands
returns-clause-stands g c = λ q ps s. c.loop-tree.invariant.0 q ps s

pub returns-clause-blocked : goal.returns-clause-blocked
returns-clause-blocked g c = c.loop-tree.invariant.2

pub returns-clause-lists : goal.returns-clause-lists
returns-clause-lists g c = c.loop-tree.invariant.1

pub returns-clause-stepped : goal.returns-clause-stepped
returns-clause-stepped g c =
    let s = c.loop-tree.invariant.0 c.requires.stands.0 c.requires.stands.1 c.requires.stands.2 in
    (omega (arith, c.if-tree-gt-MOST_PATHS.false, c.loop-tree.invariant.4), c.loop-tree.invariant.3, omega (arith, c.loop-tree-test.false, c.len.ensures, c.loop-tree.tree.queue.ok.0, s.1))
