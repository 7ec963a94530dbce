use Rattle.jv_tree.specs.StmtTree.{stmt_trees}
use Rattle.jv_flow.proofs.Telling.{same_diags}
use Rattle.jv_flow.proofs.checking.walked.Goals as goal

pub returns-clause-diags : goal.returns-clause-diags
returns-clause-diags c = same_diags (stmt_trees c.args.body.now) c.args.file c.in_ok-found.found.unreachable c.as_slice.result.now c.add_unreachable.new.diags c.empty-diags.result c.in_ok-found.ensures.unreachable c.as_slice.ensures.all c.empty-diags.ensures c.in_ok-add_unreachable.ensures
