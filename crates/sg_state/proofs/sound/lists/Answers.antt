use Rattle.sg_base.specs.Scope.{scope_cmp, scope_total}
use Rattle.sg_base.proofs.Scopes.{equal_scope}
use Rattle.sg_base.proofs.Searching.{found}
use Rattle.sg_state.specs.Listed.{lists}
use Rattle.sg_state.proofs.Soundness.{same_bool, lists_from, lists_to}
use Rattle.sg_state.proofs.sound.lists.Goals as goal

pub returns-then-rising : goal.returns-then-rising
returns-then-rising c =
    let xs = c.args.scopes.now in
    let k = found scope_cmp scope_total equal_scope xs (c.requires.rising c.if-rising.true) c.args.s c.binary_search.result c.binary_search.ensures.bound c.binary_search.ensures.position in
    rw c.is_ok.ensures.value (same_bool _ (lists xs c.args.s) ((λ t. lists_to xs c.args.s (k.0 t)), (λ t. k.1 (lists_from xs c.args.s t))))
