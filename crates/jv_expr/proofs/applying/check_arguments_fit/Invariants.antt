use Rattle.std.proofs.Common.{List, Result, length}
use Rattle.sg_reading.specs.Stop.{Reads}
use Rattle.jv_diag.specs.Plain.{DiagOf}
use Rattle.jv_names.specs.Replies.{reply_to}
use Rattle.jv_expr.specs.Calls.{arguments_fit}
use Rattle.jv_expr.specs.Sites.{site_of}
use Rattle.jv_expr.proofs.CallSteps.{Need}
use Rattle.jv_expr.proofs.applying.check_arguments_fit.Given as goal

-- what the rule comes to for the rest of the arguments, it comes to for all of them
abbrev pub invariant-loop-param : goal.invariant-loop-param
invariant-loop-param l =
    (x : Result (List DiagOf) Need) → Reads (reply_to l.o) (arguments_fit (site_of l.site) l.rest l.left l.ds) x → Reads (reply_to l.o) (arguments_fit (site_of l.site) l.fn.params l.fn.arguments l.fn.ds) x

abbrev pub decreases-loop-param : goal.decreases-loop-param
decreases-loop-param l = length l.rest
