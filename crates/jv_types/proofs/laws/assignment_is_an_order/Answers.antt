use Rattle.jv_types.proofs.laws.assignment_is_an_order.Goals as goal
use Rattle.jv_types.proofs.Converting.{assignable_on}

pub returns-clause-transitive : goal.returns-clause-transitive
returns-clause-transitive c = assignable_on
