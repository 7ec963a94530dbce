use Rattle.std.proofs.Common.{List, Result, drop}
use Rattle.sg_reading.specs.Stop.{Reads}
use Rattle.jv_diag.specs.Plain.{DiagOf}
use Rattle.jv_instance.specs.declared.ty.Ty.{Ty}
use Rattle.jv_names.specs.Replies.{reply_to}
use Rattle.jv_expr.specs.Calls.{bare_in}
use Rattle.jv_expr.specs.Sites.{site_of}
use Rattle.jv_expr.proofs.CallSteps.{Need}
use Rattle.jv_expr.proofs.calls.check_call_in.Given as goal

-- what the rule comes to for the rest of the bodies, it comes to for all of them
abbrev pub invariant-loop-body : goal.invariant-loop-body
invariant-loop-body l =
    (x : Result (Ty × List DiagOf) Need) → Reads (reply_to l.o) (bare_in (site_of l.site) (drop l.body-index l.bodies) l.i l.arguments l.ds) x → Reads (reply_to l.o) (bare_in (site_of l.site) l.bodies l.i l.arguments l.fn.ds) x
