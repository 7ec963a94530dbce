use Rattle.sg_turn.proofs.RuleSteps.{steps_keep_rule}
use Rattle.sg_turn.proofs.laws.each_step_keeps_the_rule.Goals as goal

pub returns : goal.returns
returns g c = steps_keep_rule g.V.Storied.entries g.V.Storied.root g.V.Storied.teller
