use Rattle.std.proofs.Common.{Result, drop}
use Rattle.sg_query.specs.declared.query.Query.{Query}
use Rattle.sg_reading.specs.declared.stop.Stop.{Stop}
use Rattle.sg_reading.specs.Stop.{Reads}
use Rattle.jv_instance.specs.declared.pred.JavaPred.{JavaPred}
use Rattle.jv_names.specs.declared.resolved.Resolved.{Resolved}
use Rattle.jv_names.specs.Names.{further_parts}
use Rattle.jv_names.specs.Replies.{reply_to}
use Rattle.jv_names.proofs.parts.further_parts.Given as goal

-- what the name comes to behind the parts so far, it comes to
abbrev pub invariant-loop-part : goal.invariant-loop-part
invariant-loop-part l =
    (x : Result Resolved (Stop (Query JavaPred))) → Reads (reply_to l.o) (further_parts l.l l.context l.at l.types (drop l.part-index l.rest)) x → Reads (reply_to l.o) (further_parts l.l l.context l.fn.at l.fn.types l.fn.rest) x
