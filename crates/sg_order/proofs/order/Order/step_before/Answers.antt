use Rattle.std.proofs.Common.{◌≡◌, ◌≢◌, sym, ap, ◌∙◌}
use Rattle.sg_base.specs.declared.step.Step.{Step}
use Rattle.sg_order.specs.Order.{precedes}
use Rattle.sg_order.proofs.BeforeLemmas.{same_step, Before-tail, cons-Before, Before-apart, apart-Before, same_scope, other_scope}
use Rattle.sg_order.proofs.order.Order.step_before.Goals as goal

pub returns-then-number : goal.returns-then-number
returns-then-number c =
    let labels : c.args.x.label ≢ c.args.y.label = λ e. c.if-number.true (c.number.ensures.value ∙ e ∙ sym c.number-2.ensures.value) in
    let apart : c.args.x ≡ c.args.y → ⊥ = λ e. labels (ap (λ (s : Step). s.label) e) in
    λ xs ys h. rw c.before-then-number.ensures.answer (
      (λ t. apart-Before (precedes c.args.self.now) c.args.x c.args.y xs ys labels t),
      (λ b. (Before-apart (precedes c.args.self.now) c.args.x c.args.y xs ys apart b).1),
    )

pub returns-then-ne : goal.returns-then-ne
returns-then-ne c =
    let labels : c.args.x.label ≡ c.args.y.label = sym c.number.ensures.value ∙ c.if-number.false ∙ c.number-2.ensures.value in
    let apart : c.args.x ≡ c.args.y → ⊥ =
    λ e. other_scope c.args.x.to c.args.y.to (sym c.ne.ensures ∙ c.if-ne.true) (ap (λ (s : Step). s.to) e) in
    λ xs ys h. ((λ t. cc), (λ b. absurd ((Before-apart (precedes c.args.self.now) c.args.x c.args.y xs ys apart b).0 labels)))

pub returns-else-ne : goal.returns-else-ne
returns-else-ne c =
    let labels : c.args.x.label ≡ c.args.y.label = sym c.number.ensures.value ∙ c.if-number.false ∙ c.number-2.ensures.value in
    let step : c.args.x ≡ c.args.y =
    same_step c.args.x c.args.y labels (same_scope c.args.x.to c.args.y.to (sym c.ne.ensures ∙ c.if-ne.false)) in
    λ xs ys h. (
      (λ t. cons-Before (precedes c.args.self.now) c.args.x c.args.y xs ys step (h.0 t)),
      (λ b. h.1 (Before-tail (precedes c.args.self.now) c.args.x c.args.y xs ys step b)),
    )
