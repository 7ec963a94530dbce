use Rattle.jv_grammar.proofs.WholeExpressions.{one_expr, one_init, one_type}
use Rattle.jv_grammar.proofs.laws.expressions_derive_once.Goals as goal

pub returns : goal.returns
returns c = record { expressions = one_expr; initializers = one_init; types = one_type }
