use Rattle.std.proofs.Common.{◌≡◌, ◌+◌, ◌<◌, ◌∷◌, ◌++◌, [], length, drop, sym, ◌∙◌, ap, subst, arith, List, refl}
use Rattle.sg_state.specs.Held.{state_of}
use Rattle.sg_engine.specs.declared.work.Work.{Work}
use Rattle.sg_engine.specs.Tree.{place_of, left_of, BlocksWork, IsFrontOf}
use Rattle.sg_engine.proofs.Listing.{lists_looked, front_chain}
use Rattle.sg_engine.proofs.Looking.{queue_at, set_aside, next_is}
use Rattle.sg_engine.proofs.Stepping.{each_push}
use Rattle.sg_engine.proofs.look.look_on.Goals as goal

pub is_blocked-requires : goal.is_blocked-requires
is_blocked-requires g c =
    let t = c.args.tree.now in
    let u = c.loop-tree.tree in
    let w = c.index.result.now in
    let fits : u.next < length u.queue.items = omega (arith, c.loop-tree-test.true, c.len.ensures, u.queue.ok.0) in
    let head : drop u.next u.queue.items ≡ w ∷ drop (u.next + 1) u.queue.items = queue_at u.queue.items u.next w fits c.index.ensures in
    let placed : place_of w < length t.nodes.items = next_is (λ (w : Work). place_of w < length t.nodes.items) u.blocked.items u.queue.items (left_of t) u.next w head c.loop-tree.invariant.7 ((c.requires.tree.1).0).left_in in
    record { there = rw c.loop-tree.invariant.1 placed }

pub returns-then-not-is_blocked-clause-lists : goal.returns-then-not-is_blocked-clause-lists
returns-then-not-is_blocked-clause-lists g c =
    lists_looked c.args.tree.now c.loop-tree.tree c.loop-tree.invariant.0 c.loop-tree.invariant.1 c.loop-tree.invariant.2 c.loop-tree.invariant.3 c.loop-tree.invariant.8

pub returns-clause-lists : goal.returns-clause-lists
returns-clause-lists g c =
    lists_looked c.args.tree.now c.loop-tree.tree c.loop-tree.invariant.0 c.loop-tree.invariant.1 c.loop-tree.invariant.2 c.loop-tree.invariant.3 c.loop-tree.invariant.8

pub returns-in_err-push-clause-lists : goal.returns-in_err-push-clause-lists
returns-in_err-push-clause-lists g c =
    lists_looked c.args.tree.now _ c.loop-tree.invariant.0 c.loop-tree.invariant.1 c.loop-tree.invariant.2 c.loop-tree.invariant.3
    (subst (λ (t : List Work). IsFrontOf c.args.tree.now.blocked.items t) (sym c.in_err-push.ensures.items) c.loop-tree.invariant.8)

pub returns-then-not-is_blocked-clause-looked : goal.returns-then-not-is_blocked-clause-looked
returns-then-not-is_blocked-clause-looked g c =
    let t = c.args.tree.now in
    let u = c.loop-tree.tree in
    let w = c.index.result.now in
    let fits : u.next < length u.queue.items = omega (arith, c.loop-tree-test.true, c.len.ensures, u.queue.ok.0) in
    let head : drop u.next u.queue.items ≡ w ∷ drop (u.next + 1) u.queue.items = queue_at u.queue.items u.next w fits c.index.ensures in
    let said = rw c.loop-tree.invariant.1 at c.is_blocked.ensures.free in (
      omega (arith, c.if-tree-gt-MOST_PATHS.false),
      c.loop-tree.invariant.7,
      subst (λ v. drop u.next v.items ≡ w ∷ drop (u.next + 1) v.items) c.loop-tree.invariant.2 head,
      subst (λ v. u.next < length v.items) c.loop-tree.invariant.2 fits,
      c.loop-tree.invariant.9,
      (λ b. said c.requires.tree.0 t.start ((c.requires.tree.1).0).node c.if-not-is_blocked.true b),
    )

pub loop-tree-preserved : goal.loop-tree-preserved
loop-tree-preserved g c =
    let h = state_of c.args.h.now in
    let t = c.args.tree.now in
    let u = c.loop-tree.tree in
    let w = c.index.result.now in
    let fits : u.next < length u.queue.items = omega (arith, c.loop-tree-test.true, c.len.ensures, u.queue.ok.0) in
    let head : drop u.next u.queue.items ≡ w ∷ drop (u.next + 1) u.queue.items = queue_at u.queue.items u.next w fits c.index.ensures in
    let said = rw c.loop-tree.invariant.1 at c.is_blocked.ensures.blocked in
    let blocks : BlocksWork h t.start t.nodes.items w = said c.requires.tree.0 t.start ((c.requires.tree.1).0).node c.if-not-is_blocked.false in
    let there : u.next < length t.queue.items = subst (λ v. u.next < length v.items) c.loop-tree.invariant.2 fits in (
      c.loop-tree.invariant.0,
      c.loop-tree.invariant.1,
      c.loop-tree.invariant.2,
      c.loop-tree.invariant.3,
      c.loop-tree.invariant.4,
      c.loop-tree.invariant.5,
      omega (arith, there),
      ap (λ (r : List Work). r ++ drop (u.next + 1) u.queue.items) c.in_ok-push.ensures.items ∙ (set_aside u.blocked.items u.queue.items u.next w head ∙ c.loop-tree.invariant.7),
      subst (λ (r : List Work). IsFrontOf t.blocked.items r) (sym c.in_ok-push.ensures.items) (front_chain t.blocked.items u.blocked.items (u.blocked.items ++ w ∷ []) c.loop-tree.invariant.8 (w ∷ [], refl)),
      (λ a. rw c.in_ok-push.ensures.items (each_push (BlocksWork h t.start t.nodes.items) u.blocked.items w (c.loop-tree.invariant.9 a) blocks)),
    )
