use Rattle.sg_turn.proofs.RuleSteps.{tickets_fit}
use Rattle.sg_turn.proofs.laws.tickets_fit.Goals as goal

pub returns : goal.returns
returns g c = tickets_fit g.V.Storied.entries g.V.Storied.root g.V.Storied.teller
