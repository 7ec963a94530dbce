use Rattle.std.proofs.Common.{◌≡◌, ◌++◌, [], ◌∷◌, List, subst}
use Rattle.sg_base.specs.declared.step.Step.{Step}
use Rattle.sg_base.specs.List.{IsDistinct}
use Rattle.sg_base.specs.Path.{reached_by}
use Rattle.sg_query.specs.Steps.{AreReached}
use Rattle.sg_query.proofs.Reaching.{reached_pop, distinct_pop}
use Rattle.sg_query.proofs.steps.Steps.pop.Goals as goal

pub invariant_of-self : goal.invariant_of-self
invariant_of-self c =
    let whole : c.self.inside.items.items ≡ c.pop.new.self.items ++ c.in-Some.step ∷ [] = rw c.in-Some.is at c.pop.ensures.items in
    let distinct = subst (λ (t : List Step). IsDistinct (reached_by t)) whole c.self.invariant.0 in
    let reached = subst (λ (t : List Step). AreReached t c.self.inside.reached) whole c.self.invariant.1 in
    (distinct_pop c.pop.new.self.items c.in-Some.step distinct, reached_pop c.pop.new.self.items c.in-Some.step c.self.inside.reached c.remove.new.self distinct reached c.remove.ensures.updates)
