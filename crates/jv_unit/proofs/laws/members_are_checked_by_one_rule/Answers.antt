use Rattle.jv_unit.proofs.OneRule.{members_are_checked}
use Rattle.jv_unit.proofs.laws.members_are_checked_by_one_rule.Goals as goal

pub returns : goal.returns
returns c = members_are_checked
