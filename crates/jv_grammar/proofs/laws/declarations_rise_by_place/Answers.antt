use Rattle.jv_grammar.proofs.Places.{types_rise, members_rise}
use Rattle.jv_grammar.proofs.laws.declarations_rise_by_place.Goals as goal

pub returns : goal.returns
returns c = record { types = types_rise; members = members_rise }
