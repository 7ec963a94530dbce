use Rattle.std.proofs.Common.{List, Result, drop}
use Rattle.sg_base.specs.declared.scope.Scope.{Scope}
use Rattle.sg_base.specs.List.{IsRising}
use Rattle.sg_base.specs.Scope.{scope_cmp}
use Rattle.sg_query.specs.declared.query.Query.{Query}
use Rattle.sg_reading.specs.declared.stop.Stop.{Stop}
use Rattle.sg_reading.specs.Stop.{Reads}
use Rattle.jv_instance.specs.declared.pred.JavaPred.{JavaPred}
use Rattle.jv_names.specs.Members.{members_among, members_from}
use Rattle.jv_names.specs.Replies.{reply_to}
use Rattle.jv_names.proofs.replacing.read_members_among.Given as goal

-- what the rule comes to for the rest of the methods, behind those that stay so far, it comes to for all of them
abbrev pub invariant-loop-method : goal.invariant-loop-method
invariant-loop-method l = record {
  rising : IsRising scope_cmp l.kept;
  rest : (x : Result (List Scope) (Stop (Query JavaPred))) → Reads (reply_to l.o) (members_from l.l l.methods l.kept (drop l.method-index l.methods)) x → Reads (reply_to l.o) (members_among l.l l.methods) x;
}
