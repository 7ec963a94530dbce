use Rattle.jv_member.proofs.Bounds.{own_members_are_numbered}
use Rattle.jv_member.proofs.laws.own_members_are_numbered.Goals as goal

pub returns : goal.returns
returns c = own_members_are_numbered
