use Rattle.sg_base.specs.Scope.{scope_cmp, scope_total}
use Rattle.sg_base.proofs.Scopes.{equal_scope}
use Rattle.sg_base.proofs.Searching.{gap_found, gap_without}
use Rattle.sg_base.proofs.Removing.{without_from, without_to, without_rises}
use Rattle.sg_base.proofs.scope_set.ScopeSet.remove.Goals as goal

pub invariant_of-self : goal.invariant_of-self
invariant_of-self c =
    let within = rw c.deref.ensures.value at c.in-Ok.ensures.bound in
    let here = rw c.deref.ensures.value at c.in-Ok.ensures.position in
    rw c.remove.ensures.items (without_rises scope_cmp scope_total c.self.inside.scopes.items c.in-Ok.at c.args.s within (equal_scope _ _ (here c.args.s)) c.self.invariant)

pub returns-in-Ok-clause-left : goal.returns-in-Ok-clause-left
returns-in-Ok-clause-left c = λ v.
    let within = rw c.deref.ensures.value at c.in-Ok.ensures.bound in
    let here = rw c.deref.ensures.value at c.in-Ok.ensures.position in
    let same = equal_scope _ _ (here c.args.s) in
    rw (c.remove.ensures.items, ← c.self.view_is) (
      (λ h. without_from scope_cmp scope_total c.self.inside.scopes.items c.in-Ok.at c.args.s within same c.self.invariant v h),
      (λ h. without_to scope_cmp scope_total c.self.inside.scopes.items c.in-Ok.at c.args.s within same v h.0 h.1),
    )

pub returns-in-Ok-clause-rising : goal.returns-in-Ok-clause-rising
returns-in-Ok-clause-rising c = invariant_of-self c

pub returns-in-Err-clause-left : goal.returns-in-Err-clause-left
returns-in-Err-clause-left c = λ v.
    let within = rw c.deref.ensures.value at c.in-Err.ensures.bound in
    let position = rw c.deref.ensures.value at c.in-Err.ensures.position in
    let items = c.self.inside.scopes.items in
    rw (← c.self.view_is) (
      (λ h. (h, (λ s. gap_without scope_cmp scope_total equal_scope items c.self.invariant c.args.s c.in-Err.field-0 (gap_found scope_cmp scope_total equal_scope items c.self.invariant c.args.s c.in-Err.field-0 within position) (rw (← s) h)))),
      (λ h. h.0),
    )
