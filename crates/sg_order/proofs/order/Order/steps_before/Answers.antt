use Rattle.std.proofs.Common.{◌≡◌, ◌≢◌, ◌+◌, ◌≤◌, [], ◌∷◌, length, drop, arith, sym, ◌∙◌, ap}
use Rattle.std.proofs.lemmas.List.{drop_all}
use Rattle.sg_base.specs.declared.step.Step.{Step}
use Rattle.sg_order.specs.Order.{precedes}
use Rattle.sg_order.proofs.BeforeLemmas.{same_step, Before-tail, cons-Before, Before-apart, apart-Before, Before-left, Before-right, drop_step, Before-moved, same_scope, other_scope}
use Rattle.sg_order.proofs.order.Order.steps_before.Goals as goal

pub returns-then-number : goal.returns-then-number
returns-then-number c =
    let dp = drop_step c.args.p.now c.loop-i.i c.index-p-i.result (omega arith) c.index-p-i.is in
    let dq = drop_step c.args.q.now c.loop-i.i c.index-q-i.result (omega arith) c.index-q-i.is in
    let moved = Before-moved (precedes c.args.self.now) (drop c.loop-i.i c.args.p.now) (drop c.loop-i.i c.args.q.now) (c.index-p-i.result ∷ drop (c.loop-i.i + 1) c.args.p.now) (c.index-q-i.result ∷ drop (c.loop-i.i + 1) c.args.q.now) dp dq in
    let labels : c.index-p-i.result.label ≢ c.index-q-i.result.label =
    λ e. c.if-number.true (c.number.ensures.value ∙ e ∙ sym c.number-in-loop-i.ensures.value) in
    let apart : c.index-p-i.result ≡ c.index-q-i.result → ⊥ = λ e. labels (ap (λ (s : Step). s.label) e) in
    rw c.before-then-number.ensures.answer (
      (λ t. c.loop-i.invariant.1 (moved.1 (apart-Before (precedes c.args.self.now) c.index-p-i.result c.index-q-i.result (drop (c.loop-i.i + 1) c.args.p.now) (drop (c.loop-i.i + 1) c.args.q.now) labels t))),
      (λ b. (Before-apart (precedes c.args.self.now) c.index-p-i.result c.index-q-i.result (drop (c.loop-i.i + 1) c.args.p.now) (drop (c.loop-i.i + 1) c.args.q.now) apart (moved.0 (c.loop-i.invariant.0 b))).1),
    )

pub returns-then-ne : goal.returns-then-ne
returns-then-ne c =
    let dp = drop_step c.args.p.now c.loop-i.i c.index-p-i.result (omega arith) c.index-p-i.is in
    let dq = drop_step c.args.q.now c.loop-i.i c.index-q-i.result (omega arith) c.index-q-i.is in
    let moved = Before-moved (precedes c.args.self.now) (drop c.loop-i.i c.args.p.now) (drop c.loop-i.i c.args.q.now) (c.index-p-i.result ∷ drop (c.loop-i.i + 1) c.args.p.now) (c.index-q-i.result ∷ drop (c.loop-i.i + 1) c.args.q.now) dp dq in
    let labels : c.index-p-i.result.label ≡ c.index-q-i.result.label =
    sym c.number.ensures.value ∙ c.if-number.false ∙ c.number-in-loop-i.ensures.value in
    let apart : c.index-p-i.result ≡ c.index-q-i.result → ⊥ =
    λ e. other_scope c.index-p-i.result.to c.index-q-i.result.to (sym c.ne.ensures ∙ c.if-ne.true) (ap (λ (s : Step). s.to) e) in
    ((λ t. cc), (λ b. absurd ((Before-apart (precedes c.args.self.now) c.index-p-i.result c.index-q-i.result (drop (c.loop-i.i + 1) c.args.p.now) (drop (c.loop-i.i + 1) c.args.q.now) apart (moved.0 (c.loop-i.invariant.0 b))).0 labels)))

pub loop-i-preserved : goal.loop-i-preserved
loop-i-preserved c =
    let dp = drop_step c.args.p.now c.loop-i.i c.index-p-i.result (omega arith) c.index-p-i.is in
    let dq = drop_step c.args.q.now c.loop-i.i c.index-q-i.result (omega arith) c.index-q-i.is in
    let moved = Before-moved (precedes c.args.self.now) (drop c.loop-i.i c.args.p.now) (drop c.loop-i.i c.args.q.now) (c.index-p-i.result ∷ drop (c.loop-i.i + 1) c.args.p.now) (c.index-q-i.result ∷ drop (c.loop-i.i + 1) c.args.q.now) dp dq in
    let labels : c.index-p-i.result.label ≡ c.index-q-i.result.label =
    sym c.number.ensures.value ∙ c.if-number.false ∙ c.number-in-loop-i.ensures.value in
    let step : c.index-p-i.result ≡ c.index-q-i.result =
    same_step c.index-p-i.result c.index-q-i.result labels (same_scope c.index-p-i.result.to c.index-q-i.result.to (sym c.ne.ensures ∙ c.if-ne.false)) in (
      (λ b. Before-tail (precedes c.args.self.now) c.index-p-i.result c.index-q-i.result (drop (c.loop-i.i + 1) c.args.p.now) (drop (c.loop-i.i + 1) c.args.q.now) step (moved.0 (c.loop-i.invariant.0 b))),
      (λ b. c.loop-i.invariant.1 (moved.1 (cons-Before (precedes c.args.self.now) c.index-p-i.result c.index-q-i.result (drop (c.loop-i.i + 1) c.args.p.now) (drop (c.loop-i.i + 1) c.args.q.now) step b))),
    )

pub returns-then-shared-p : goal.returns-then-shared-p
returns-then-shared-p c =
    let at_end : c.loop-i.i ≡ c.min-shared.result = omega arith in
    let inv = rw at_end at c.loop-i.invariant in
    let dp = drop_step c.args.p.now c.min-shared.result c.index-p-shared.result c.if-shared-p.true c.index-p-shared.is in
    let short : length c.args.q.now ≤ c.min-shared.result = omega (arith, c.min-shared.ensures) in
    let dq = drop_all c.min-shared.result c.args.q.now short in
    let moved = Before-moved (precedes c.args.self.now) (drop c.min-shared.result c.args.p.now) (drop c.min-shared.result c.args.q.now) (c.index-p-shared.result ∷ drop (c.min-shared.result + 1) c.args.p.now) [] dp dq in
    let left = Before-left (precedes c.args.self.now) c.index-p-shared.result (drop (c.min-shared.result + 1) c.args.p.now) in
    rw (c.before-then-shared-p.ensures.answer, ← c.index-p-shared.is) (
      (λ t. inv.1 (moved.1 (left.0 t))),
      (λ b. left.1 (moved.0 (inv.0 b))),
    )

pub returns-then-shared-q : goal.returns-then-shared-q
returns-then-shared-q c =
    let at_end : c.loop-i.i ≡ c.min-shared.result = omega arith in
    let inv = rw at_end at c.loop-i.invariant in
    let dq = drop_step c.args.q.now c.min-shared.result c.index-q-shared.result c.if-shared-q.true c.index-q-shared.is in
    let dp = drop_all c.min-shared.result c.args.p.now c.if-shared-p.false in
    let moved = Before-moved (precedes c.args.self.now) (drop c.min-shared.result c.args.p.now) (drop c.min-shared.result c.args.q.now) [] (c.index-q-shared.result ∷ drop (c.min-shared.result + 1) c.args.q.now) dp dq in
    let right = Before-right (precedes c.args.self.now) c.index-q-shared.result (drop (c.min-shared.result + 1) c.args.q.now) in
    rw (c.before-then-shared-q.ensures.answer, ← c.index-q-shared.is) (
      (λ t. inv.1 (moved.1 (right.0 t))),
      (λ b. right.1 (moved.0 (inv.0 b))),
    )
