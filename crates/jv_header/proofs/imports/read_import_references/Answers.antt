use Rattle.jv_header.proofs.ImportsSoFar.{import_err, import_more}
use Rattle.jv_header.proofs.Progress.{clause_stops}
use Rattle.jv_header.proofs.imports.read_import_references.Goals as goal

pub returns-in_err-reference-clause-reads : goal.returns-in_err-reference-clause-reads
returns-in_err-reference-clause-reads c =
    clause_stops _ _ _ _ _ c.from_residual.ensures.1
    (import_err _ _ _ _ _ c.loop-alloc.invariant _ _ c.index-imports-len.is c.len-in-loop-alloc.ensures _ c.loop-alloc-test.true c.len.ensures _ c.in_err-reference.ensures)

pub loop-alloc-preserved : goal.loop-alloc-preserved
loop-alloc-preserved c =
    import_more _ _ _ _ _ c.loop-alloc.invariant _ _ c.index-imports-len.is c.len-in-loop-alloc.ensures _ c.loop-alloc-test.true c.len.ensures _ _ c.in_ok-push.ensures.ok c.in_ok-reference.ensures
