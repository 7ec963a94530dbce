use Rattle.std.proofs.Common.{List, Option, Result, drop}
use Rattle.sg_query.specs.declared.query.Query.{Query}
use Rattle.sg_reading.specs.declared.stop.Stop.{Stop}
use Rattle.sg_reading.specs.Reading.{each}
use Rattle.sg_reading.specs.Stop.{Reads}
use Rattle.sg_reading.proofs.Lists.{each_after}
use Rattle.jv_instance.specs.declared.pred.JavaPred.{JavaPred}
use Rattle.jv_names.specs.Replies.{reply_to}
use Rattle.jv_names.specs.Read.{SignatureOf, signature_of}
use Rattle.jv_member.proofs.whole_methods.read_signatures.Given as goal

-- what the rule comes to for the rest of the methods, after the signatures so far, it comes to for all of them
abbrev pub invariant-loop-method : goal.invariant-loop-method
invariant-loop-method l =
    (x : Result (List (Option SignatureOf)) (Stop (Query JavaPred))) → Reads (reply_to l.o) (each_after (signature_of l.l) l.found (drop l.method-index l.methods)) x → Reads (reply_to l.o) (each (signature_of l.l) l.methods) x
