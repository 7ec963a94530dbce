use Rattle.std.proofs.Common.{refl}
use Rattle.jv_header.proofs.Progress.{clause_stops}
use Rattle.jv_header.proofs.StaticSteps.{statics_end, statics_err, statics_more}
use Rattle.jv_header.proofs.static_imports.read_left.Goals as goal

pub returns-clause-reads : goal.returns-clause-reads
returns-clause-reads c = statics_end _ _ _ _ _ c.loop-progress.progress c.loop-progress.invariant _ c.loop-progress-test.false refl

pub returns-in_err-part-clause-reads : goal.returns-in_err-part-clause-reads
returns-in_err-part-clause-reads c =
    clause_stops _ _ _ _ _ c.from_residual.ensures.1
    (statics_err _ _ _ _ _ c.loop-progress.progress c.loop-progress.invariant _ c.index-imports-progress.is c.loop-progress-test.true _ c.in_err-part.ensures)

pub loop-progress-preserved : goal.loop-progress-preserved
loop-progress-preserved c =
    statics_more _ _ _ _ _ c.loop-progress.progress c.loop-progress.invariant _ c.index-imports-progress.is c.loop-progress-test.true c.pass.new.self _ c.in_ok-part.ensures c.in_ok-pass.ensures.count c.in_ok-pass.ensures.diags
