use Rattle.std.proofs.Common.{List, [], Result, drop}
use Rattle.sg_base.specs.declared.scope.Scope.{Scope}
use Rattle.sg_query.specs.declared.query.Query.{Query}
use Rattle.sg_reading.specs.declared.stop.Stop.{Stop}
use Rattle.sg_reading.specs.Stop.{Reads}
use Rattle.jv_instance.specs.declared.pred.JavaPred.{JavaPred}
use Rattle.jv_names.specs.Reference.{refused}
use Rattle.jv_names.specs.Replies.{reply_to}
use Rattle.jv_header.proofs.imports.read_refused.Given as goal

-- what the rule comes to for the rest of the types, behind those so far, it comes to for all of them
abbrev pub invariant-loop-ty : goal.invariant-loop-ty
invariant-loop-ty l =
    (x : Result (List Scope) (Stop (Query JavaPred))) → Reads (reply_to l.o) (refused l.l l.spot.file l.spot.inside.items l.refused (drop l.ty-index l.types)) x → Reads (reply_to l.o) (refused l.l l.spot.file l.spot.inside.items [] l.types) x
