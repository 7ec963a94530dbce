use Rattle.std.proofs.Common.{◌+◌, refl}
use Rattle.jv_header.proofs.Progress.{clause_stops}
use Rattle.jv_header.proofs.RowProgress.{row_more, row_unknown}
use Rattle.jv_header.proofs.dependence.read_row.Goals as goal

pub returns-in_err-answer-clause-reads : goal.returns-in_err-answer-clause-reads
returns-in_err-answer-clause-reads c = clause_stops _ _ _ _ _ c.from_residual.ensures.1 (row_unknown _ _ c.args.ty _ _ c.loop-begun.invariant _ c.loop-begun-test.true _ c.in_err-answer.ensures.0 c.in_err-answer.ensures.1)

pub loop-begun-preserved : goal.loop-begun-preserved
loop-begun-preserved c = row_more _ _ c.args.ty _ _ c.loop-begun.invariant _ c.loop-begun-test.true _ (record { count = c.loop-begun.begun.count + 1; found = c.with_supertypes-begun.result }) c.in_ok-answer.ensures c.with_supertypes-begun.ensures refl
