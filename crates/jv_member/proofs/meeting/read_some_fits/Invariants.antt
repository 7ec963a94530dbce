use Rattle.std.proofs.Common.{Bool, Result, drop}
use Rattle.sg_query.specs.declared.query.Query.{Query}
use Rattle.sg_reading.specs.declared.stop.Stop.{Stop}
use Rattle.sg_reading.specs.Stop.{Reads}
use Rattle.jv_instance.specs.declared.pred.JavaPred.{JavaPred}
use Rattle.jv_names.specs.Replies.{reply_to}
use Rattle.jv_member.specs.Overriding.{some_fits}
use Rattle.jv_member.proofs.meeting.read_some_fits.Given as goal

-- what the rule comes to for the rest of the results, it comes to for all of them
abbrev pub invariant-loop-ty : goal.invariant-loop-ty
invariant-loop-ty l =
    (x : Result Bool (Stop (Query JavaPred))) → Reads (reply_to l.o) (some_fits l.l l.results (drop l.ty-index l.results)) x → Reads (reply_to l.o) (some_fits l.l l.results l.results) x
