use Rattle.std.proofs.Common.{◌-◌, length}
use Rattle.jv_layout.specs.Readers.{members_of_type}
use Rattle.jv_names.specs.Replies.{reply_to}
use Rattle.jv_unit.specs.Checks.{checks_of}
use Rattle.jv_unit.specs.Kept.{folder_of}
use Rattle.jv_unit.specs.Progress.{AreSoFar}
use Rattle.jv_unit.proofs.check_rules.read_checks.Given as goal

abbrev pub invariant-loop-checks : goal.invariant-loop-checks
invariant-loop-checks l = AreSoFar (reply_to l.o) (folder_of l.w) l.t l.checks

abbrev pub decreases-loop-checks : goal.decreases-loop-checks
decreases-loop-checks l = length (checks_of (members_of_type l.w.layout l.t)) - l.checks.place
