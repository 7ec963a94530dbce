use Rattle.std.proofs.Common.{Result, drop}
use Rattle.sg_query.specs.declared.query.Query.{Query}
use Rattle.sg_reading.specs.declared.stop.Stop.{Stop}
use Rattle.sg_reading.specs.Stop.{Reads}
use Rattle.jv_instance.specs.declared.pred.JavaPred.{JavaPred}
use Rattle.jv_names.specs.declared.meaning.Meaning.{Meaning}
use Rattle.jv_names.specs.Replies.{reply_to}
use Rattle.jv_names.specs.TypeNames.{simple_type}
use Rattle.jv_names.proofs.type_names.simple_type.Given as goal

-- what the rule comes to for the rest of the bodies, it comes to for all of them
abbrev pub invariant-loop-body : goal.invariant-loop-body
invariant-loop-body l =
    (x : Result Meaning (Stop (Query JavaPred))) → Reads (reply_to l.o) (simple_type l.l l.spot.file (drop l.body-index l.body-items) l.name) x → Reads (reply_to l.o) (simple_type l.l l.spot.file l.body-items l.name) x
