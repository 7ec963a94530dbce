use Rattle.std.proofs.Common.{◌+◌, ◌*◌}
use Rattle.jv_flow_tests.proofs.build.+build.Given as goal

abbrev pub decreases-statement : goal.decreases-statement
decreases-statement l = 2 * l.depth

abbrev pub decreases-statements : goal.decreases-statements
decreases-statements l = 2 * l.depth + 1

abbrev pub decreases-if_alone : goal.decreases-if_alone
decreases-if_alone l = 2 * l.depth + 1

abbrev pub decreases-if_other : goal.decreases-if_other
decreases-if_other l = 2 * l.depth + 1

abbrev pub decreases-if_chain : goal.decreases-if_chain
decreases-if_chain l = 2 * l.depth + 1
