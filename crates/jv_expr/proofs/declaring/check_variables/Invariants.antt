use Rattle.std.proofs.Common.{Result, drop}
use Rattle.sg_query.specs.declared.query.Query.{Query}
use Rattle.sg_reading.specs.declared.stop.Stop.{Stop}
use Rattle.sg_reading.specs.Stop.{Reads}
use Rattle.jv_instance.specs.declared.pred.JavaPred.{JavaPred}
use Rattle.jv_tree.specs.StmtTree.{var_trees}
use Rattle.jv_names.specs.Replies.{reply_to}
use Rattle.jv_expr.specs.Locals.{AddsLocals}
use Rattle.jv_expr.specs.Sites.{site_of}
use Rattle.jv_expr.specs.Statements.{Scoped, variables_checked}
use Rattle.jv_expr.proofs.declaring.check_variables.Given as goal

-- what the rule comes to for the rest of the variables, it comes to for all of them
abbrev pub invariant-loop-var : goal.invariant-loop-var
invariant-loop-var l = record {
  reads : (x : Result Scoped (Stop (Query JavaPred))) → Reads (reply_to l.o) (variables_checked (site_of l.site) l.is_final l.ty (var_trees (drop l.var-index l.vars.items)) l.locals.items l.ds) x → Reads (reply_to l.o) (variables_checked (site_of l.site) l.is_final l.ty (var_trees l.vars.items) l.fn.locals.items l.fn.ds) x;
  grows : AddsLocals l.fn.locals.items l.locals.items;
}
