use Rattle.std.proofs.Common.{List, sym, subst}
use Rattle.sg_base.specs.declared.step.Step.{Step}
use Rattle.sg_base.specs.List.{IsDistinct}
use Rattle.sg_base.specs.Path.{reached_by}
use Rattle.sg_query.specs.Steps.{AreReached}
use Rattle.sg_query.proofs.Reaching.{reached_push, distinct_push}
use Rattle.sg_query.proofs.steps.Steps.push.Goals as goal

pub invariant_of-self-in_default : goal.invariant_of-self-in_default
invariant_of-self-in_default c =
    let fresh = rw (← c.self.view_is) at c.requires in
    subst (λ (t : List Step). IsDistinct (reached_by t) × AreReached t c.insert.new.self) (sym c.in_ok-push.ensures.items)
    (distinct_push c.self.inside.items.items c.args.step c.self.invariant.0 fresh, reached_push c.self.inside.items.items c.args.step c.self.inside.reached c.insert.new.self c.self.invariant.1 c.in_default.ensures.updates)
