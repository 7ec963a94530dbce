use Rattle.jv_grammar.proofs.WholeExpressions.{shaped_expr}
use Rattle.jv_grammar.proofs.Shape.{shape_effect}
use Rattle.jv_grammar.proofs.laws.derived_expressions_are_shaped.Goals as goal

pub returns : goal.returns
returns c = record { expressions = shaped_expr; effects = λ xs ys e d. shape_effect d }
