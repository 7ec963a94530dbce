use Rattle.std.proofs.Common.{map, take}
use Rattle.sg_reading.specs.Stop.{Replied}
use Rattle.jv_tree.specs.TypeTree.{ids_of}
use Rattle.jv_names.specs.Replies.{reply_to}
use Rattle.jv_header.specs.Circular.{AreRead}
use Rattle.jv_header.proofs.circular.first_open.Given as goal

-- the references so far are read
abbrev pub invariant-loop-i : goal.invariant-loop-i
invariant-loop-i l = AreRead (Replied (reply_to l.o)) l.l l.fn.ty (take l.i (map ids_of l.clause))
