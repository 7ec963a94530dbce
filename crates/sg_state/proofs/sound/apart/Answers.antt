use Rattle.std.proofs.Common.{get_or, sym, ◌∙◌}
use Rattle.sg_base.specs.declared.scope.Scope.{Scope}
use Rattle.sg_state.proofs.Soundness.{stands_again, stands_once, any_default}
use Rattle.sg_state.proofs.sound.apart.Goals as goal

pub returns-then-stands_in : goal.returns-then-stands_in
returns-then-stands_in c = ((λ t. absurd (cc)), (λ d. absurd (stands_again (λ (s : Scope). s) c.args.scopes.now c.loop-i.i (get_or c.args.scopes.now c.loop-i.i (record { unit = 0; serial = 0 })) (any_default c.args.scopes.now c.loop-i.i _ _ c.loop-i-test.true) c.loop-i-test.true (sym c.stands_in.ensures ∙ c.if-stands_in.true) d)))

pub loop-i-preserved : goal.loop-i-preserved
loop-i-preserved c = stands_once (λ (s : Scope). s) c.args.scopes.now c.loop-i.i (get_or c.args.scopes.now c.loop-i.i (record { unit = 0; serial = 0 })) (any_default c.args.scopes.now c.loop-i.i _ _ c.loop-i-test.true) c.loop-i-test.true (sym c.stands_in.ensures ∙ c.if-stands_in.false) c.loop-i.invariant
