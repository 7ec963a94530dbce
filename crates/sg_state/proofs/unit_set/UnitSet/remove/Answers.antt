use Rattle.std.specs.Cmp.{nat_cmp_total}
use Rattle.std.specs.Ordering.{nat_cmp}
use Rattle.sg_base.proofs.Scopes.{equal_nat}
use Rattle.sg_base.proofs.Searching.{gap_found, gap_without}
use Rattle.sg_base.proofs.Removing.{without_from, without_to, without_rises}
use Rattle.sg_state.proofs.unit_set.UnitSet.remove.Goals as goal

pub invariant_of-self-in-Ok : goal.invariant_of-self-in-Ok
invariant_of-self-in-Ok c =
    let up = rw c.in-Many.is at c.self.invariant in
    let within = rw (c.deref-in-Many.ensures.value, c.deref.ensures) at c.in-Ok.ensures.bound in
    let here = rw (c.deref-in-Many.ensures.value, c.deref.ensures) at c.in-Ok.ensures.position in
    rw (c.remove.ensures.items, c.deref_mut.ensures.value) (without_rises nat_cmp nat_cmp_total c.in-Many.units.value.items c.in-Ok.at c.args.unit within (equal_nat _ _ (here c.args.unit)) up)

pub returns-in-Ok-clause-left : goal.returns-in-Ok-clause-left
returns-in-Ok-clause-left c = λ v.
    let up = rw c.in-Many.is at c.self.invariant in
    let within = rw (c.deref-in-Many.ensures.value, c.deref.ensures) at c.in-Ok.ensures.bound in
    let here = rw (c.deref-in-Many.ensures.value, c.deref.ensures) at c.in-Ok.ensures.position in
    let same = equal_nat _ _ (here c.args.unit) in
    rw (c.remove.ensures.items, c.deref_mut.ensures.value, ← c.self.view_is, c.in-Many.is) (
      (λ h. without_from nat_cmp nat_cmp_total c.in-Many.units.value.items c.in-Ok.at c.args.unit within same up v h),
      (λ h. without_to nat_cmp nat_cmp_total c.in-Many.units.value.items c.in-Ok.at c.args.unit within same v h.0 h.1),
    )

pub returns-in-Ok-clause-rising : goal.returns-in-Ok-clause-rising
returns-in-Ok-clause-rising c = invariant_of-self-in-Ok c

pub returns-in-Err-clause-left : goal.returns-in-Err-clause-left
returns-in-Err-clause-left c = λ v.
    let up = rw c.in-Many.is at c.self.invariant in
    let within = rw (c.deref-in-Many.ensures.value, c.deref.ensures) at c.in-Err.ensures.bound in
    let position = rw (c.deref-in-Many.ensures.value, c.deref.ensures) at c.in-Err.ensures.position in
    let items = c.in-Many.units.value.items in
    rw (← c.self.view_is, c.in-Many.is) (
      (λ h. (h, (λ s. gap_without nat_cmp nat_cmp_total equal_nat items up c.args.unit c.in-Err.field-0 (gap_found nat_cmp nat_cmp_total equal_nat items up c.args.unit c.in-Err.field-0 within position) (rw (← s) h)))),
      (λ h. h.0),
    )
