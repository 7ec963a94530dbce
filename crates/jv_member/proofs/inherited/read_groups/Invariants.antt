use Rattle.std.proofs.Common.{List, Result, drop}
use Rattle.sg_query.specs.declared.query.Query.{Query}
use Rattle.sg_reading.specs.declared.stop.Stop.{Stop}
use Rattle.sg_reading.specs.Reading.{each}
use Rattle.sg_reading.specs.Stop.{Reads}
use Rattle.sg_reading.proofs.Lists.{each_after}
use Rattle.jv_diag.specs.Plain.{DiagOf}
use Rattle.jv_instance.specs.declared.pred.JavaPred.{JavaPred}
use Rattle.jv_names.specs.Replies.{reply_to}
use Rattle.jv_member.specs.Overriding.{group_rule}
use Rattle.jv_member.proofs.inherited.read_groups.Given as goal

-- what the rule comes to for the rest of the names, after the diagnostics so far, it comes to for all of them
abbrev pub invariant-loop-index : goal.invariant-loop-index
invariant-loop-index l =
    (x : Result (List (List DiagOf)) (Stop (Query JavaPred))) → Reads (reply_to l.o) (each_after (group_rule l.l l.names l.ty l.type_name) l.lists (drop l.index l.groups)) x → Reads (reply_to l.o) (each (group_rule l.l l.names l.ty l.type_name) l.groups) x
