use Rattle.std.proofs.Common.{List, sym, ◌∙◌, subst}
use Rattle.std.specs.List.{Contains}
use Rattle.sg_base.specs.declared.scope.Scope.{Scope}
use Rattle.sg_base.proofs.Edges.{row_from, row_to}
use Rattle.sg_base.proofs.Rows.{part-found, part-absent}
use Rattle.sg_base.proofs.graph.Graph.edges_of.Goals as goal

pub returns-in-Some-clause-row : goal.returns-in-Some-clause-row
returns-in-Some-clause-row g c =
    let found = part-found (record { from = c.args.s; label = c.number-label.result }) c.self.inside.rows.entries c.in-Some.targets.now (c.self.invariant.0).rows_rise (sym c.in-Some.ensures.value) in
    let here = rw c.number-label.ensures.value at found in
    rw (← c.self.view_is) (c.as_slice.ensures.all ∙ sym here)

pub returns-in-Some-clause-exact : goal.returns-in-Some-clause-exact
returns-in-Some-clause-exact g c = λ t.
    let row = returns-in-Some-clause-row g c in (
      (λ h. row_from c.args.self.now c.args.s c.args.l t (subst (λ (ts : List Scope). Contains ts t) row h)),
      (λ h. subst (λ (ts : List Scope). Contains ts t) (sym row) (row_to c.args.self.now c.args.s c.args.l t h)),
    )

pub returns-in-None-clause-row : goal.returns-in-None-clause-row
returns-in-None-clause-row g c =
    let absent = part-absent (record { from = c.args.s; label = c.number-label.result }) c.self.inside.rows.entries (sym c.in-None.ensures.value) in
    let here = rw c.number-label.ensures.value at absent in
    rw (← c.self.view_is) (sym here)

pub returns-in-None-clause-exact : goal.returns-in-None-clause-exact
returns-in-None-clause-exact g c = λ t.
    let row = returns-in-None-clause-row g c in (
      (λ h. row_from c.args.self.now c.args.s c.args.l t (subst (λ (ts : List Scope). Contains ts t) row h)),
      (λ h. subst (λ (ts : List Scope). Contains ts t) (sym row) (row_to c.args.self.now c.args.s c.args.l t h)),
    )
