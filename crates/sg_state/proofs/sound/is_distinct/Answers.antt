use Rattle.std.proofs.Common.{refl}
use Rattle.sg_base.specs.Scope.{scope_cmp, scope_total}
use Rattle.sg_base.proofs.Rising.{Distinct-rising}
use Rattle.sg_state.proofs.Soundness.{distinct_itself}
use Rattle.sg_state.proofs.sound.is_distinct.Goals as goal

pub returns-then-rising : goal.returns-then-rising
returns-then-rising c = ((λ t. Distinct-rising scope_cmp scope_total c.args.scopes.now (c.requires.rising c.if-rising.true)), (λ d. refl))

pub returns : goal.returns
returns c = distinct_itself c.apart.result c.args.scopes.now c.apart.ensures
