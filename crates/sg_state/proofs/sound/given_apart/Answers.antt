use Rattle.std.proofs.Common.{get_or, map, refl, sym, ◌∙◌}
use Rattle.sg_base.specs.Scope.{scope_cmp, scope_total}
use Rattle.sg_base.proofs.Rising.{Distinct-rising}
use Rattle.sg_state.proofs.Soundness.{stands_again, stands_once, any_default}
use Rattle.sg_state.proofs.sound.given_apart.Goals as goal

pub returns-then-given_rise : goal.returns-then-given_rise
returns-then-given_rise g c = ((λ t. Distinct-rising scope_cmp scope_total (map (λ p. p.0) c.args.given.now) (c.given_rise.ensures c.if-given_rise.true)), (λ d. refl))

pub returns-then-is_given : goal.returns-then-is_given
returns-then-is_given g c = ((λ t. absurd (cc)), (λ d. absurd (stands_again (λ p. p.0) c.args.given.now c.loop-i.i (get_or c.args.given.now c.loop-i.i c.index-given-i.result) (any_default c.args.given.now c.loop-i.i _ _ c.loop-i-test.true) c.loop-i-test.true (sym c.is_given.ensures ∙ c.if-is_given.true) d)))

pub loop-i-preserved : goal.loop-i-preserved
loop-i-preserved g c = stands_once (λ p. p.0) c.args.given.now c.loop-i.i (get_or c.args.given.now c.loop-i.i c.index-given-i.result) (any_default c.args.given.now c.loop-i.i _ _ c.loop-i-test.true) c.loop-i-test.true (sym c.is_given.ensures ∙ c.if-is_given.false) c.loop-i.invariant
