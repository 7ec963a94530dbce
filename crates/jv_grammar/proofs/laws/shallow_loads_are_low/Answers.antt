use Rattle.jv_grammar.proofs.Shallow.{loads_are_low}
use Rattle.jv_grammar.proofs.laws.shallow_loads_are_low.Goals as goal

pub returns : goal.returns
returns c = loads_are_low
