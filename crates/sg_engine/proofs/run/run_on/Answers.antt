use Rattle.std.proofs.Common.{arith}
use Rattle.sg_engine.specs.Keyed.{wanting_by}
use Rattle.sg_engine.proofs.Listing.{lists_chain}
use Rattle.sg_engine.proofs.Running.{looked_search}
use Rattle.sg_engine.proofs.run.run_on.Goals as goal

pub look_on-requires : goal.look_on-requires
look_on-requires g c =
    let s = c.loop-n.invariant.0 c.requires.stands.0 c.requires.stands.1 c.requires.stands.2 in
    record { tree = (c.requires.stands.0.expr, ((s.0).2, s.1)) }

pub explore_next-requires-clause-stands : goal.explore_next-requires-clause-stands
explore_next-requires-clause-stands g c = (c.requires.stands.0, c.requires.stands.1, c.loop-n.invariant.0 c.requires.stands.0 c.requires.stands.1 c.requires.stands.2)

pub returns-in-Many-clause-stands : goal.returns-in-Many-clause-stands
returns-in-Many-clause-stands g c = λ q ps s. c.in_ok-explore_next.ensures.stands q ps (c.loop-n.invariant.0 q ps s)

pub returns-in-Over-clause-stands : goal.returns-in-Over-clause-stands
returns-in-Over-clause-stands g c = λ q ps s. c.in_ok-explore_next.ensures.stands q ps (c.loop-n.invariant.0 q ps s)

pub returns-in-Many-clause-ran : goal.returns-in-Many-clause-ran
returns-in-Many-clause-ran g c =
    let st = rw c.in-Many.is at c.in_ok-explore_next.ensures.stepped in
    (st.0, omega (arith, st.1, c.loop-n.invariant.3, c.loop-n-test.true))

pub returns-in-Over-clause-ran : goal.returns-in-Over-clause-ran
returns-in-Over-clause-ran g c =
    let x = c.in_ok-explore_next.ensures in
    let st = rw c.in-Over.is at x.stepped in
    (st.0, omega (arith, st.1, c.loop-n.invariant.3, c.loop-n-test.true), st.2, λ a. x.blocked (c.loop-n.invariant.2 a))

pub returns-in-Many-clause-lists : goal.returns-in-Many-clause-lists
returns-in-Many-clause-lists g c = lists_chain c.args.tree.now c.loop-n.tree c.explore_next.new.tree c.loop-n.invariant.1 c.in_ok-explore_next.ensures.lists

pub returns-in-Over-clause-lists : goal.returns-in-Over-clause-lists
returns-in-Over-clause-lists g c = lists_chain c.args.tree.now c.loop-n.tree c.explore_next.new.tree c.loop-n.invariant.1 c.in_ok-explore_next.ensures.lists

pub returns-in-Many-2-clause-stands : goal.returns-in-Many-2-clause-stands
returns-in-Many-2-clause-stands g c = λ q ps s.
    let l = c.in_ok-look_on.ensures in
    looked_search c.args.h.now (wanting_by g.I.Instance.wants g.I.Instance.datum_key g.I.Instance.pred_key c.args.pred.now) ps q c.loop-n.tree c.look_on.new.tree c.in_ok-look_on.field-0 l.lists.start l.nodes l.queue l.found l.explored l.going l.looked (c.loop-n.invariant.0 q ps s)

pub returns-in-Over-2-clause-stands : goal.returns-in-Over-2-clause-stands
returns-in-Over-2-clause-stands g c = λ q ps s.
    let l = c.in_ok-look_on.ensures in
    looked_search c.args.h.now (wanting_by g.I.Instance.wants g.I.Instance.datum_key g.I.Instance.pred_key c.args.pred.now) ps q c.loop-n.tree c.look_on.new.tree c.in_ok-look_on.field-0 l.lists.start l.nodes l.queue l.found l.explored l.going l.looked (c.loop-n.invariant.0 q ps s)

pub returns-in-Free-clause-stands : goal.returns-in-Free-clause-stands
returns-in-Free-clause-stands g c = λ q ps s.
    let l = c.in_ok-look_on.ensures in
    looked_search c.args.h.now (wanting_by g.I.Instance.wants g.I.Instance.datum_key g.I.Instance.pred_key c.args.pred.now) ps q c.loop-n.tree c.look_on.new.tree c.in_ok-look_on.field-0 l.lists.start l.nodes l.queue l.found l.explored l.going l.looked (c.loop-n.invariant.0 q ps s)

pub loop-n-preserved : goal.loop-n-preserved
loop-n-preserved g c =
    let t = c.loop-n.tree in
    let v = c.explore_next.new.tree in
    let x = c.in_ok-explore_next.ensures in
    let one = rw c.in-Explored.is at x.stepped in (
      (λ q ps s. x.stands q ps (c.loop-n.invariant.0 q ps s)),
      lists_chain c.args.tree.now t v c.loop-n.invariant.1 x.lists,
      (λ a. x.blocked (c.loop-n.invariant.2 a)),
      omega (arith, one, c.loop-n.invariant.3),
    )
