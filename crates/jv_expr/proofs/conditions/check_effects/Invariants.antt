use Rattle.std.proofs.Common.{List, Result, drop}
use Rattle.sg_query.specs.declared.query.Query.{Query}
use Rattle.sg_reading.specs.declared.stop.Stop.{Stop}
use Rattle.sg_reading.specs.Stop.{Reads}
use Rattle.jv_diag.specs.Plain.{DiagOf}
use Rattle.jv_instance.specs.declared.pred.JavaPred.{JavaPred}
use Rattle.jv_tree.specs.ExprTree.{expr_trees}
use Rattle.jv_names.specs.Replies.{reply_to}
use Rattle.jv_expr.specs.Sites.{site_of}
use Rattle.jv_expr.specs.Statements.{effects_checked}
use Rattle.jv_expr.proofs.conditions.check_effects.Given as goal

-- what the rule comes to for the rest of the expressions, it comes to for all of them
abbrev pub invariant-loop-e : goal.invariant-loop-e
invariant-loop-e l =
    (x : Result (List DiagOf) (Stop (Query JavaPred))) → Reads (reply_to l.o) (effects_checked (site_of l.site) l.locals (expr_trees (drop l.e-index l.es.items)) l.ds) x → Reads (reply_to l.o) (effects_checked (site_of l.site) l.locals (expr_trees l.es.items) l.fn.ds) x
