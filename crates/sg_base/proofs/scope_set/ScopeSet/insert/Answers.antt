use Rattle.sg_base.specs.Scope.{scope_cmp, scope_total}
use Rattle.sg_base.proofs.Scopes.{equal_scope}
use Rattle.sg_base.proofs.Searching.{gap_found, gap_without, Rising-insert, Contains-insert}
use Rattle.sg_base.proofs.scope_set.ScopeSet.insert.Goals as goal

pub invariant_of-self-in-Err : goal.invariant_of-self-in-Err
invariant_of-self-in-Err c =
    let within = rw c.deref.ensures.value at c.in-Err.ensures.bound in
    let position = rw c.deref.ensures.value at c.in-Err.ensures.position in
    rw c.in_ok-insert-in-Err.ensures.items (Rising-insert scope_cmp scope_total equal_scope c.self.inside.scopes.items c.self.invariant c.args.s c.in-Err.at
    (gap_found scope_cmp scope_total equal_scope c.self.inside.scopes.items c.self.invariant c.args.s c.in-Err.at within position))

pub returns-in_ok-insert-in-Err-clause-ok : goal.returns-in_ok-insert-in-Err-clause-ok
returns-in_ok-insert-in-Err-clause-ok c =
    rw (c.in_ok-insert-in-Err.ensures.items, ← c.self.view_is) (Contains-insert scope_cmp scope_total equal_scope c.self.inside.scopes.items c.self.invariant c.args.s c.in-Err.at)

pub returns-in_ok-insert-in-Err-clause-rising : goal.returns-in_ok-insert-in-Err-clause-rising
returns-in_ok-insert-in-Err-clause-rising c = invariant_of-self-in-Err c

pub returns-in_ok-insert-in-Err-clause-again : goal.returns-in_ok-insert-in-Err-clause-again
returns-in_ok-insert-in-Err-clause-again c = λ there.
    let within = rw c.deref.ensures.value at c.in-Err.ensures.bound in
    let position = rw c.deref.ensures.value at c.in-Err.ensures.position in
    let inside = rw (← c.self.view_is) at there in
    absurd (gap_without scope_cmp scope_total equal_scope c.self.inside.scopes.items c.self.invariant c.args.s c.in-Err.at
    (gap_found scope_cmp scope_total equal_scope c.self.inside.scopes.items c.self.invariant c.args.s c.in-Err.at within position) inside)
