use Rattle.std.proofs.Common.{ℕ, Ok, inl, inr, refl, sym, subst}
use Rattle.std.specs.Cmp.{nat_cmp_total}
use Rattle.std.specs.List.{Contains}
use Rattle.std.specs.Ordering.{nat_cmp}
use Rattle.sg_base.proofs.Scopes.{equal_nat}
use Rattle.sg_base.proofs.Searching.{gap_found, Rising-insert, Contains-insert, found}
use Rattle.sg_state.proofs.unit_set.UnitSet.insert.Goals as goal
use Rattle.sg_state.proofs.unit_set.UnitSet.insert.Goals.{in-Ok, in-Err+in_ok-insert-in-Err}

pub invariant_of-self-in-Many : goal.invariant_of-self-in-Many
invariant_of-self-in-Many c =
    let up = rw c.in-Many.is at c.self.invariant in
    elim c.match-binary_search.branch [
      | in-Ok w ↦ rw w.self-inside-is up
      | in-Err+in_ok-insert-in-Err w ↦
          let within = rw (c.deref-in-Many.ensures.value, c.deref.ensures) at w.in-Err.ensures.bound in
          let position = rw (c.deref-in-Many.ensures.value, c.deref.ensures) at w.in-Err.ensures.position in
          rw (w.self-inside-is, w.in_ok-insert-in-Err.ensures.items, w.deref_mut.ensures.value) (Rising-insert nat_cmp nat_cmp_total equal_nat c.in-Many.units.value.items up c.args.unit w.in-Err.at
          (gap_found nat_cmp nat_cmp_total equal_nat c.in-Many.units.value.items up c.args.unit w.in-Err.at within position))
    ]

pub returns-after-binary_search-clause-ok : goal.returns-after-binary_search-clause-ok
returns-after-binary_search-clause-ok c =
    let up = rw c.in-Many.is at c.self.invariant in
    elim c.match-binary_search.branch [
      | in-Ok w ↦
          let within = rw (c.deref-in-Many.ensures.value, c.deref.ensures) at w.in-Ok.ensures.bound in
          let position = rw (c.deref-in-Many.ensures.value, c.deref.ensures) at w.in-Ok.ensures.position in
          let there : Contains c.in-Many.units.value.items c.args.unit = (found nat_cmp nat_cmp_total equal_nat c.in-Many.units.value.items up c.args.unit (Ok w.in-Ok.field-0) within position).0 refl in
          rw (w.result-is, w.self-inside-is, ← c.self.view_is, c.in-Many.is) (λ v. (
            (λ h. inl h),
            (λ h. elim h [ inl k ↦ k | inr e ↦ subst (λ (x : ℕ). Contains c.in-Many.units.value.items x) (sym e) there ]),
          ))
      | in-Err+in_ok-insert-in-Err w ↦
          rw (w.result-is, w.self-inside-is, w.in_ok-insert-in-Err.ensures.items, w.deref_mut.ensures.value, ← c.self.view_is, c.in-Many.is) (Contains-insert nat_cmp nat_cmp_total equal_nat c.in-Many.units.value.items up c.args.unit w.in-Err.at)
    ]

pub returns-after-binary_search-clause-rising : goal.returns-after-binary_search-clause-rising
returns-after-binary_search-clause-rising c = invariant_of-self-in-Many c
