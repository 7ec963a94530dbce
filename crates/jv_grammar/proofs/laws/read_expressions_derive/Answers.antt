use Rattle.jv_grammar.proofs.WholeExpressions.{found_expr, found_init, found_type}
use Rattle.jv_grammar.proofs.laws.read_expressions_derive.Goals as goal

pub returns : goal.returns
returns c = record { expressions = found_expr; initializers = found_init; types = found_type }
