use Rattle.std.proofs.Common.{◌≡◌, ◌∙◌, sym, subst, ℕ, arith}
use Rattle.sg_base.specs.Label.{Has}
use Rattle.sg_expr.specs.Positions.{PositionsOf}
use Rattle.sg_engine.specs.Nodes.{RestOf}
use Rattle.sg_engine.specs.Tree.{IsFrontOf}
use Rattle.sg_engine.proofs.Listing.{front_push, front_is}
use Rattle.sg_engine.proofs.Offering.{OfferedTo, OfferedAll, offered_none, offered_in, offered_out, offered_headless, offered_now, headless, offers_next, offers_whole}
use Rattle.sg_engine.proofs.tree.push_offers.Goals as goal
use Rattle.sg_engine.proofs.tree.push_offers.Goals.{then-has+in_ok-push, else-has, then-goes_on+else-loop-n-test, else-goes_on}

abbrev rest : PositionsOf → ℕ → RestOf
rest words set = record { words = words; set = set }

pub loop-n-init : goal.loop-n-init
loop-n-init c = (offered_none c.heads_of-heads.result c.args.place c.args.queue.now.items, λ z. absurd (omega (arith, z)))

pub loop-n-preserved : goal.loop-n-preserved
loop-n-preserved c = (
  elim c.if-has.branch [
    | then-has+in_ok-push w ↦
        let has : Has c.heads_of-heads.result c.loop-n.n = rw c.new-l.ensures at (c.has.ensures.member.0 w.if-has.true) in
        rw (w.queue-is, w.in_ok-push.ensures.items, c.new-l.ensures) (offered_in c.heads_of-heads.result c.args.place c.loop-n.n c.args.queue.now.items c.loop-n.queue.items c.loop-n.invariant.0 has)
    | else-has w ↦
        rw w.queue-is (offered_out c.heads_of-heads.result c.args.place c.loop-n.n c.args.queue.now.items c.loop-n.queue.items c.loop-n.invariant.0 (λ h. cc (c.has.ensures.member.1 (subst (λ (t : ℕ). Has c.heads_of-heads.result t) (sym c.new-l.ensures) h), w.if-has.false)))
  ],
  λ z. c.has.ensures.below,
)

pub returns-in_ok-push-2-clause-offers : goal.returns-in_ok-push-2-clause-offers
returns-in_ok-push-2-clause-offers c =
    let heads = c.heads_of-heads.result in
    let old = c.args.queue.now.items in
    let all : OfferedAll heads c.args.place old c.if-goes_on.queue.items = elim c.if-goes_on.branch [
      | then-goes_on+else-loop-n-test w ↦
          let last : w.loop-n.n ≡ 16 = omega (arith, w.loop-n-test.false, w.loop-n.auto.n-end) in
          let same : c.if-goes_on.queue.items ≡ w.loop-n.queue.items = cc w.queue-is in
          offered_now heads c.args.place old c.if-goes_on.queue.items w.loop-n.queue.items same (subst (λ (n : ℕ). OfferedTo heads c.args.place n old w.loop-n.queue.items) last w.loop-n.invariant.0, w.loop-n.invariant.1 (omega (arith, last)))
      | else-goes_on w ↦
          let same : c.if-goes_on.queue.items ≡ old = cc w.queue-is in
          offered_now heads c.args.place old c.if-goes_on.queue.items old same (offered_headless heads c.args.place old (headless heads (rest c.args.words.now c.args.set) c.heads_of-heads.ensures (λ k. cc (c.goes_on.ensures.1 k, w.if-goes_on.false))))
    ] in
    rw c.in_ok-push-2.ensures.items (offers_whole heads c.args.place (rest c.args.words.now c.args.set) all.1 c.heads_of-heads.ensures old c.if-goes_on.queue.items all.0 (c.ends.ensures.0 c.if-ends.true))

pub returns-else-ends-clause-offers : goal.returns-else-ends-clause-offers
returns-else-ends-clause-offers c =
    let heads = c.heads_of-heads.result in
    let old = c.args.queue.now.items in
    let all : OfferedAll heads c.args.place old c.if-goes_on.queue.items = elim c.if-goes_on.branch [
      | then-goes_on+else-loop-n-test w ↦
          let last : w.loop-n.n ≡ 16 = omega (arith, w.loop-n-test.false, w.loop-n.auto.n-end) in
          let same : c.if-goes_on.queue.items ≡ w.loop-n.queue.items = cc w.queue-is in
          offered_now heads c.args.place old c.if-goes_on.queue.items w.loop-n.queue.items same (subst (λ (n : ℕ). OfferedTo heads c.args.place n old w.loop-n.queue.items) last w.loop-n.invariant.0, w.loop-n.invariant.1 (omega (arith, last)))
      | else-goes_on w ↦
          let same : c.if-goes_on.queue.items ≡ old = cc w.queue-is in
          offered_now heads c.args.place old c.if-goes_on.queue.items old same (offered_headless heads c.args.place old (headless heads (rest c.args.words.now c.args.set) c.heads_of-heads.ensures (λ k. cc (c.goes_on.ensures.1 k, w.if-goes_on.false))))
    ] in
    offers_next heads c.args.place (rest c.args.words.now c.args.set) all.1 c.heads_of-heads.ensures old c.if-goes_on.queue.items all.0 (λ i. cc (c.ends.ensures.1 i, c.if-ends.false))

pub returns-in_ok-push-2-clause-lists : goal.returns-in_ok-push-2-clause-lists
returns-in_ok-push-2-clause-lists c =
    let front : IsFrontOf c.args.queue.now.items c.if-goes_on.queue.items =
    elim c.if-goes_on.branch [
      | then-goes_on+else-loop-n-test w ↦
          let same : c.if-goes_on.queue.items ≡ w.loop-n.queue.items = cc w.queue-is in
          (_, (same ∙ (w.loop-n.invariant.0).2))
      | else-goes_on w ↦
          let same : c.if-goes_on.queue.items ≡ c.args.queue.now.items = cc w.queue-is in
          front_is c.args.queue.now.items c.if-goes_on.queue.items same
    ] in
    rw c.in_ok-push-2.ensures.items (front_push c.args.queue.now.items c.if-goes_on.queue.items front.0 _ front.1)

pub returns-in_err-push-2-clause-lists : goal.returns-in_err-push-2-clause-lists
returns-in_err-push-2-clause-lists c =
    let front : IsFrontOf c.args.queue.now.items c.if-goes_on.queue.items =
    elim c.if-goes_on.branch [
      | then-goes_on+else-loop-n-test w ↦
          let same : c.if-goes_on.queue.items ≡ w.loop-n.queue.items = cc w.queue-is in
          (_, (same ∙ (w.loop-n.invariant.0).2))
      | else-goes_on w ↦
          let same : c.if-goes_on.queue.items ≡ c.args.queue.now.items = cc w.queue-is in
          front_is c.args.queue.now.items c.if-goes_on.queue.items same
    ] in
    rw c.in_err-push-2.ensures.items front

pub returns-else-ends-clause-lists : goal.returns-else-ends-clause-lists
returns-else-ends-clause-lists c =
    elim c.if-goes_on.branch [
      | then-goes_on+else-loop-n-test w ↦
          let same : c.if-goes_on.queue.items ≡ w.loop-n.queue.items = cc w.queue-is in
          (_, (same ∙ (w.loop-n.invariant.0).2))
      | else-goes_on w ↦
          let same : c.if-goes_on.queue.items ≡ c.args.queue.now.items = cc w.queue-is in
          front_is c.args.queue.now.items c.if-goes_on.queue.items same
    ]
