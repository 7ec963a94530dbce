use Rattle.jv_grammar.proofs.Refused.{derived_begin, fronts_begin}
use Rattle.jv_grammar.proofs.laws.fronts_begin.Goals as goal

pub returns : goal.returns
returns c = record { derived = derived_begin; fronts = fronts_begin }
