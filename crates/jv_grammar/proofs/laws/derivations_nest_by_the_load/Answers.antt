use Rattle.jv_grammar.proofs.WholeNesting.{deep_in_expr, deep_in_init, deep_in_stmt, deep_in_file}
use Rattle.jv_grammar.proofs.laws.derivations_nest_by_the_load.Goals as goal

pub returns : goal.returns
returns c = record { expressions = deep_in_expr; initializers = deep_in_init; statements = deep_in_stmt; files = deep_in_file }
