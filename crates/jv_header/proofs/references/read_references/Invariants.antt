use Rattle.std.proofs.Common.{◌-◌, length, map}
use Rattle.jv_tree.specs.TypeTree.{ids_of}
use Rattle.jv_names.specs.Replies.{reply_to}
use Rattle.jv_header.specs.Progress.{IsClauseSoFar}
use Rattle.jv_header.proofs.references.read_references.Given as goal

abbrev pub invariant-loop-alloc : goal.invariant-loop-alloc
invariant-loop-alloc l = IsClauseSoFar (reply_to l.o) l.l l.fn.ty (map ids_of l.clause) l.found

abbrev pub decreases-loop-alloc : goal.decreases-loop-alloc
decreases-loop-alloc l = length l.clause - length l.found
