use Rattle.std.proofs.Common.{List, Result, drop, length, take, ◌-◌}
use Rattle.sg_query.specs.declared.query.Query.{Query}
use Rattle.sg_reading.specs.declared.stop.Stop.{Stop}
use Rattle.sg_reading.specs.Stop.{Reads}
use Rattle.jv_diag.specs.Plain.{DiagOf}
use Rattle.jv_instance.specs.declared.pred.JavaPred.{JavaPred}
use Rattle.jv_names.specs.Replies.{reply_to}
use Rattle.jv_expr.specs.declared.denoted.Denoted.{Denoted}
use Rattle.jv_expr.specs.Sites.{site_of}
use Rattle.jv_expr.specs.Variables.{further_parts}
use Rattle.jv_expr.proofs.denoting.check_further_parts.Given as goal

-- what the rule comes to behind the parts so far, it comes to for the name
abbrev pub invariant-loop-k : goal.invariant-loop-k
invariant-loop-k l =
    (x : Result (Denoted × List DiagOf) (Stop (Query JavaPred))) → Reads (reply_to l.o) (further_parts (site_of l.site) (take l.k l.ids) l.so_far (drop l.k l.ids) l.ds) x → Reads (reply_to l.o) (further_parts (site_of l.site) (take 1 l.ids) l.fn.head (drop 1 l.ids) l.fn.ds) x

abbrev pub decreases-loop-k : goal.decreases-loop-k
decreases-loop-k l = length l.ids - l.k
