use Rattle.jv_grammar.proofs.WholeNesting.{reads_whole_expr, reads_whole_init, reads_whole_stmt, reads_whole_file}
use Rattle.jv_grammar.proofs.laws.nesting_is_bounded_by_the_load.Goals as goal

pub returns : goal.returns
returns c = record { expressions = reads_whole_expr; initializers = reads_whole_init; statements = reads_whole_stmt; files = reads_whole_file }
