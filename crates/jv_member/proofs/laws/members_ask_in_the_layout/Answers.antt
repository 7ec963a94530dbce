use Rattle.jv_member.proofs.MembersAsked.{members_ask_in_layout}
use Rattle.jv_member.proofs.laws.members_ask_in_the_layout.Goals as goal

pub returns : goal.returns
returns c = members_ask_in_layout
