use Rattle.std.proofs.Common.{Result, drop}
use Rattle.sg_query.specs.declared.query.Query.{Query}
use Rattle.sg_reading.specs.declared.stop.Stop.{Stop}
use Rattle.sg_reading.specs.Stop.{Reads}
use Rattle.jv_instance.specs.declared.pred.JavaPred.{JavaPred}
use Rattle.jv_names.specs.Replies.{reply_to}
use Rattle.jv_expr.specs.declared.found_field.FoundField.{FoundField}
use Rattle.jv_expr.specs.Variables.{field_outward}
use Rattle.jv_expr.proofs.variables.read_field_outward.Given as goal

-- what the rule comes to for the rest of the bodies, it comes to for all of them
abbrev pub invariant-loop-body : goal.invariant-loop-body
invariant-loop-body l =
    (x : Result FoundField (Stop (Query JavaPred))) → Reads (reply_to l.o) (field_outward l.l (drop l.body-index l.bodies) l.name) x → Reads (reply_to l.o) (field_outward l.l l.bodies l.name) x
