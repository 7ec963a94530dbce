use Rattle.sg_base.specs.Scope.{scope_cmp, scope_total}
use Rattle.sg_base.proofs.Scopes.{equal_scope}
use Rattle.sg_base.proofs.Searching.{found}
use Rattle.sg_base.proofs.scope_set.ScopeSet.contains.Goals as goal

pub returns : goal.returns
returns c =
    let within = rw c.deref.ensures.value at c.binary_search.ensures.bound in
    let position = rw c.deref.ensures.value at c.binary_search.ensures.position in
    rw (← c.self.view_is, c.is_ok.ensures.value) (found scope_cmp scope_total equal_scope c.self.inside.scopes.items c.self.invariant c.args.s c.binary_search.result within position)
