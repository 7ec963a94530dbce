use Rattle.std.proofs.Common.{ℕ, List, Option, Result, drop}
use Rattle.sg_query.specs.declared.query.Query.{Query}
use Rattle.sg_reading.specs.declared.stop.Stop.{Stop}
use Rattle.sg_reading.specs.Reading.{each}
use Rattle.sg_reading.specs.Stop.{Reads}
use Rattle.sg_reading.proofs.Lists.{each_after}
use Rattle.jv_instance.specs.declared.pred.JavaPred.{JavaPred}
use Rattle.jv_names.specs.Replies.{reply_to}
use Rattle.jv_member.specs.Overriding.{overriding}
use Rattle.jv_member.proofs.above.read_each_overriding.Given as goal

-- what the rule comes to for the rest of the methods, after the codes so far, it comes to for all of them
abbrev pub invariant-loop-other : goal.invariant-loop-other
invariant-loop-other l =
    (x : Result (List (Option ℕ)) (Stop (Query JavaPred))) → Reads (reply_to l.o) (each_after (overriding l.l l.method) l.codes (drop l.other-index l.others)) x → Reads (reply_to l.o) (each (overriding l.l l.method) l.others) x
