use Rattle.std.proofs.Common.{◌≡◌, ◌-◌, length}
use Rattle.sg_reading.specs.Progress.{HasResidual}
use Rattle.jv_tree.specs.StmtTree.{stmt_trees}
use Rattle.jv_names.specs.Replies.{reply_to}
use Rattle.jv_expr.specs.Progress.{statements_left}
use Rattle.jv_expr.specs.Sites.{site_of}
use Rattle.jv_expr.proofs.top_statements.check_left.Given as goal

-- what was left at first goes on as what is left now
abbrev pub invariant-loop-body : goal.invariant-loop-body
invariant-loop-body l = record {
  left : HasResidual (reply_to l.o) (statements_left (site_of l.site) (stmt_trees l.ss) l.fn.body) (statements_left (site_of l.site) (stmt_trees l.ss) l.body);
  result : l.body.result ≡ l.fn.body.result;
}

abbrev pub decreases-loop-body : goal.decreases-loop-body
decreases-loop-body l = length l.ss - l.body.count
