use Rattle.std.proofs.Common.{List, Result, map, drop}
use Rattle.sg_query.specs.declared.query.Query.{Query}
use Rattle.sg_reading.specs.declared.stop.Stop.{Stop}
use Rattle.sg_reading.specs.Stop.{Reads}
use Rattle.sg_reading.proofs.Lists.{each_after}
use Rattle.jv_instance.specs.declared.pred.JavaPred.{JavaPred}
use Rattle.jv_tree.specs.DeclTree.{param_tree}
use Rattle.jv_names.specs.declared.written_type.WrittenType.{WrittenType}
use Rattle.jv_names.specs.Replies.{reply_to}
use Rattle.jv_member.specs.Signatures.{param_types}
use Rattle.jv_member.proofs.Steps.{param_type}
use Rattle.jv_member.proofs.signature.read_params.Given as goal

-- what the rule comes to for the rest of the parameters, after the types so far, it comes to for all of them
abbrev pub invariant-loop-param : goal.invariant-loop-param
invariant-loop-param l =
    (x : Result (List WrittenType) (Stop (Query JavaPred))) → Reads (reply_to l.o) (each_after (param_type l.l l.names l.spot.file l.spot.inside.items) l.found (map param_tree (drop l.param-index l.params))) x → Reads (reply_to l.o) (param_types l.l l.names l.spot.file l.spot.inside.items (map param_tree l.params)) x
