use Rattle.std.proofs.Common.{◌+◌, ◌*◌}
use Rattle.sc_sources.proofs.lexing.+fn-lex_all-join+arg2+fn-lex_all-join+arg3+lex_all.Given as goal

abbrev pub decreases-join+arg2 : goal.decreases-join+arg2
decreases-join+arg2 g l = 2 * l.fewer + 1

abbrev pub decreases-join+arg3 : goal.decreases-join+arg3
decreases-join+arg3 g l = 2 * l.others + 1

abbrev pub decreases-lex_all : goal.decreases-lex_all
decreases-lex_all g l = 2 * l.workers
