use Rattle.jv_unit.proofs.OneRule.{bodies_are_checked}
use Rattle.jv_unit.proofs.laws.bodies_are_checked_by_one_rule.Goals as goal

pub returns : goal.returns
returns c = bodies_are_checked
