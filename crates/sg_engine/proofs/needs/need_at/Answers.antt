use Rattle.std.proofs.Common.{sym, ap, ◌∙◌}
use Rattle.sg_base.specs.declared.scope.Scope.{Scope}
use Rattle.sg_state.specs.declared.need.Need.TheVariants.{Row, Datum}
use Rattle.sg_base.specs.declared.step.Step.{Step}
use Rattle.sg_engine.proofs.needs.need_at.Goals as goal

pub returns-in-Next : goal.returns-in-Next
returns-in-Next c = λ e start nodes.
    let at = (nodes c.in-Next.k c.at.ensures.0 (rw c.in-Next.is at c.requires.there) c.at.ensures.1).ends ∙ ap (λ (x : Step). x.to) (sym c.at.ensures.3) in
    rw c.in-Next.is (ap (λ (s : Scope). Row s c.in-Next.l) (sym at))

pub returns-in-Whole : goal.returns-in-Whole
returns-in-Whole c = λ e start nodes.
    let at = (nodes c.in-Whole.k c.at-in-Whole.ensures.0 (rw c.in-Whole.is at c.requires.there) c.at-in-Whole.ensures.1).ends ∙ ap (λ (x : Step). x.to) (sym c.at-in-Whole.ensures.3) in
    rw c.in-Whole.is (ap (λ (s : Scope). Datum s) (sym at))
