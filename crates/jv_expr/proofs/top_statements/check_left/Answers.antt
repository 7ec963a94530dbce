use Rattle.std.proofs.Common.{◌+◌, Err, refl}
use Rattle.sg_reading.proofs.Progress.{residual_on, residual_reads}
use Rattle.jv_expr.proofs.StatementEnds.{plain_stops}
use Rattle.jv_expr.proofs.TopSteps.{left_ends, left_more, left_stops}
use Rattle.jv_expr.proofs.top_statements.check_left.Goals as goal

pub returns-in_err-check_next-clause-reads : goal.returns-in_err-check_next-clause-reads
returns-in_err-check_next-clause-reads c =
    plain_stops _ _ _ _ c.from_residual.ensures.1 _
    (residual_reads _ _ _ (Err _) c.loop-body.invariant.left (left_stops _ _ _ c.loop-body.body _ c.loop-body-test.true c.index-ss-body.is _ c.in_err-check_next.ensures.reads))

pub loop-body-preserved : goal.loop-body-preserved
loop-body-preserved c = record {
  left = residual_on _ _ _ _ c.loop-body.invariant.left (left_more _ _ _ c.loop-body.body _ c.loop-body-test.true c.index-ss-body.is (record { result = c.loop-body.body.result; count = c.loop-body.body.count + 1; locals = c.check_next.new.locals; diags = c.check_next.new.ds }) refl c.in_ok-check_next.ensures.reads);
  result = c.loop-body.invariant.result;
}

pub returns-clause-reads : goal.returns-clause-reads
returns-clause-reads c = residual_reads _ _ _ _ c.loop-body.invariant.left (left_ends _ _ _ c.loop-body.body _ c.loop-body-test.false refl)
