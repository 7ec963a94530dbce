use Rattle.jv_grammar.proofs.WholeExpressions.{find_expr, find_init}
use Rattle.jv_grammar.proofs.laws.readers_find_expressions.Goals as goal

pub returns : goal.returns
returns c = record { expressions = find_expr; initializers = find_init }
