use Rattle.std.proofs.Common.{Bool, Result, drop}
use Rattle.sg_query.specs.declared.query.Query.{Query}
use Rattle.sg_reading.specs.declared.stop.Stop.{Stop}
use Rattle.sg_reading.specs.Stop.{Reads}
use Rattle.jv_instance.specs.declared.pred.JavaPred.{JavaPred}
use Rattle.jv_names.specs.Access.{some_body}
use Rattle.jv_names.specs.Members.{stands_for}
use Rattle.jv_names.specs.Replies.{reply_to}
use Rattle.jv_names.proofs.replacing.read_some_stands_for.Given as goal

-- what the rule comes to for the rest of the methods, it comes to for all of them
abbrev pub invariant-loop-other : goal.invariant-loop-other
invariant-loop-other l =
    (x : Result Bool (Stop (Query JavaPred))) → Reads (reply_to l.o) (some_body (stands_for l.l l.method) (drop l.other-index l.all)) x → Reads (reply_to l.o) (some_body (stands_for l.l l.method) l.all) x
