use Rattle.std.proofs.Common.{Result, drop}
use Rattle.sg_query.specs.declared.query.Query.{Query}
use Rattle.sg_reading.specs.declared.stop.Stop.{Stop}
use Rattle.sg_reading.specs.Stop.{Reads}
use Rattle.jv_instance.specs.declared.pred.JavaPred.{JavaPred}
use Rattle.jv_tree.specs.StmtTree.{stmt_kind_tree, stmt_trees, branch_trees}
use Rattle.jv_names.specs.Replies.{reply_to}
use Rattle.jv_expr.specs.Branches.{branches_of}
use Rattle.jv_expr.specs.Locals.{AddsLocals}
use Rattle.jv_expr.specs.Sites.{site_of}
use Rattle.jv_expr.specs.Statements.{Scoped, all_checked, branches_checked}
use Rattle.jv_expr.proofs.statements.+statements.Given as goal

-- what the rule comes to for the rest of the statements, it comes to for all of them
abbrev pub invariant-check_all-loop-s : goal.invariant-check_all-loop-s
invariant-check_all-loop-s l = record {
  reads : (x : Result Scoped (Stop (Query JavaPred))) → Reads (reply_to l.o) (all_checked (site_of l.site) l.within (stmt_trees (drop l.s-index l.ss.items)) l.locals.items l.ds) x → Reads (reply_to l.o) (all_checked (site_of l.site) l.within (stmt_trees l.ss.items) l.fn.locals.items l.fn.ds) x;
  grows : AddsLocals l.fn.locals.items l.locals.items;
}

-- and so for the branches of an `if`
abbrev pub invariant-check_branches-loop-branch : goal.invariant-check_branches-loop-branch
invariant-check_branches-loop-branch l = record {
  reads : (x : Result Scoped (Stop (Query JavaPred))) → Reads (reply_to l.o) (branches_checked (site_of l.site) l.within (branch_trees (drop l.branch-index l.branch-items)) l.locals.items l.ds) x → Reads (reply_to l.o) (branches_checked (site_of l.site) l.within (branches_of (stmt_kind_tree l.s.kind)) l.fn.locals.items l.fn.ds) x;
  grows : AddsLocals l.fn.locals.items l.locals.items;
}
