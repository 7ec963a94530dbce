use Rattle.std.proofs.Common.{◌+◌, ◌*◌}
use Rattle.sc_sources.proofs.growing.+fn-grow_all-join+arg2+fn-grow_all-join+arg3+grow_all.Given as goal

abbrev pub decreases-join+arg2 : goal.decreases-join+arg2
decreases-join+arg2 g l = 2 * l.fewer + 1

abbrev pub decreases-join+arg3 : goal.decreases-join+arg3
decreases-join+arg3 g l = 2 * l.others + 1

abbrev pub decreases-grow_all : goal.decreases-grow_all
decreases-grow_all g l = 2 * l.workers
