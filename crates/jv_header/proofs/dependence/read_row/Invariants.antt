use Rattle.std.proofs.Common.{◌-◌, length}
use Rattle.jv_names.specs.Replies.{reply_to}
use Rattle.jv_header.specs.RowProgress.{IsRowSoFar}
use Rattle.jv_header.proofs.dependence.read_row.Given as goal

abbrev pub invariant-loop-begun : goal.invariant-loop-begun
invariant-loop-begun l = IsRowSoFar (reply_to l.o) l.l l.fn.ty l.row l.begun

abbrev pub decreases-loop-begun : goal.decreases-loop-begun
decreases-loop-begun l = length l.row - l.begun.count
