use Rattle.jv_grammar.proofs.WholeNesting.{reads_shallow_expr, reads_shallow_init, reads_shallow_stmt, reads_shallow_file}
use Rattle.jv_grammar.proofs.laws.readers_need_few_levels.Goals as goal

pub returns : goal.returns
returns c = record { expressions = reads_shallow_expr; initializers = reads_shallow_init; statements = reads_shallow_stmt; files = reads_shallow_file }
