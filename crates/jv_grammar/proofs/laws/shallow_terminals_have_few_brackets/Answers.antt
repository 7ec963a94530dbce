use Rattle.jv_grammar.proofs.WholeNesting.{few_in_type, few_in_expr, few_in_init, few_in_stmt}
use Rattle.jv_grammar.proofs.laws.shallow_terminals_have_few_brackets.Goals as goal

pub returns : goal.returns
returns c = record { types = few_in_type; expressions = few_in_expr; initializers = few_in_init; statements = few_in_stmt }
