use Rattle.std.proofs.Common.{List, Result, map, drop}
use Rattle.sg_query.specs.declared.query.Query.{Query}
use Rattle.sg_reading.specs.declared.stop.Stop.{Stop}
use Rattle.sg_reading.specs.Reading.{each}
use Rattle.sg_reading.specs.Stop.{Reads}
use Rattle.sg_reading.proofs.Lists.{each_after}
use Rattle.jv_diag.specs.Plain.{DiagOf}
use Rattle.jv_instance.specs.declared.pred.JavaPred.{JavaPred}
use Rattle.jv_tree.specs.TypeTree.{ids_of}
use Rattle.jv_names.specs.Replies.{reply_to}
use Rattle.jv_member.specs.Members.{member_calls}
use Rattle.jv_member.specs.Placed.{placed_of}
use Rattle.jv_member.proofs.members.read_each_calls.Given as goal

-- what the rule comes to for the rest of the members, after the diagnostics so far, it comes to for all of them
abbrev pub invariant-loop-member : goal.invariant-loop-member
invariant-loop-member l =
    (x : Result (List (List DiagOf)) (Stop (Query JavaPred))) → Reads (reply_to l.o) (each_after (member_calls l.l l.names l.ty (map ids_of l.extends)) l.found (map placed_of (drop l.member-index l.placed))) x → Reads (reply_to l.o) (each (member_calls l.l l.names l.ty (map ids_of l.extends)) (map placed_of l.placed)) x
