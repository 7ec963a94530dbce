use Rattle.std.proofs.Common.{ℕ, get_or, map, refl, sym, ◌∙◌}
use Rattle.sg_base.specs.declared.scope.Scope.{Scope}
use Rattle.sg_base.specs.Scope.{scope_cmp, scope_total}
use Rattle.sg_base.proofs.Rising.{Distinct-rising}
use Rattle.sg_state.proofs.Soundness.{stands_again, stands_once, any_default}
use Rattle.sg_state.proofs.sound.holds_apart.Goals as goal

pub returns-then-holds_rise : goal.returns-then-holds_rise
returns-then-holds_rise c = ((λ t. Distinct-rising scope_cmp scope_total (map (λ k. k.1) c.args.holds.now) (c.holds_rise.ensures c.if-holds_rise.true)), (λ d. refl))

pub returns-then-is_held : goal.returns-then-is_held
returns-then-is_held c = ((λ t. absurd (cc)), (λ d. absurd (stands_again (λ (k : ℕ × Scope). k.1) c.args.holds.now c.loop-i.i (get_or c.args.holds.now c.loop-i.i (0, record { unit = 0; serial = 0 })) (any_default c.args.holds.now c.loop-i.i _ _ c.loop-i-test.true) c.loop-i-test.true (sym c.is_held.ensures ∙ c.if-is_held.true) d)))

pub loop-i-preserved : goal.loop-i-preserved
loop-i-preserved c = stands_once (λ (k : ℕ × Scope). k.1) c.args.holds.now c.loop-i.i (get_or c.args.holds.now c.loop-i.i (0, record { unit = 0; serial = 0 })) (any_default c.args.holds.now c.loop-i.i _ _ c.loop-i-test.true) c.loop-i-test.true (sym c.is_held.ensures ∙ c.if-is_held.false) c.loop-i.invariant
