use Rattle.jv_grammar.proofs.Shallow.{shallow_has_few}
use Rattle.jv_grammar.proofs.laws.shallow_has_few_brackets.Goals as goal

pub returns : goal.returns
returns c = shallow_has_few
