use Rattle.std.proofs.Common.{List, Result, drop}
use Rattle.sg_reading.specs.Reading.{each}
use Rattle.sg_reading.specs.Stop.{Reads}
use Rattle.sg_reading.proofs.Lists.{each_after}
use Rattle.jv_instance.specs.declared.ty.Ty.{Ty}
use Rattle.jv_names.specs.Replies.{reply_to}
use Rattle.jv_expr.specs.Calls.{result_type}
use Rattle.jv_expr.proofs.CallSteps.{Need}
use Rattle.jv_expr.proofs.choosing.read_result_types.Given as goal

-- what the rule comes to for the rest of the methods, after the results so far, it comes to for all of them
abbrev pub invariant-loop-method : goal.invariant-loop-method
invariant-loop-method l =
    (x : Result (List Ty) Need) → Reads (reply_to l.o) (each_after (result_type l.l) l.results.items (drop l.method-index l.methods)) x → Reads (reply_to l.o) (each (result_type l.l) l.methods) x
