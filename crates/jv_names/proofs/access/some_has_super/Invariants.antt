use Rattle.std.proofs.Common.{Bool, Result, drop}
use Rattle.sg_query.specs.declared.query.Query.{Query}
use Rattle.sg_reading.specs.declared.stop.Stop.{Stop}
use Rattle.sg_reading.specs.Stop.{Reads}
use Rattle.jv_instance.specs.declared.pred.JavaPred.{JavaPred}
use Rattle.jv_names.specs.Access.{has_super, some_body}
use Rattle.jv_names.specs.Replies.{reply_to}
use Rattle.jv_names.proofs.access.some_has_super.Given as goal

-- what the rule comes to for the rest of the bodies, it comes to for all of them
abbrev pub invariant-loop-body : goal.invariant-loop-body
invariant-loop-body l =
    (x : Result Bool (Stop (Query JavaPred))) → Reads (reply_to l.o) (some_body (has_super l.l l.above) (drop l.body-index l.bodies)) x → Reads (reply_to l.o) (some_body (has_super l.l l.above) l.bodies) x
