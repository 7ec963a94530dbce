use Rattle.jv_header.proofs.Progress.{at_header, clause_err, clause_more, clause_stops}
use Rattle.jv_header.proofs.references.read_references.Goals as goal

pub returns-in_err-reference-clause-reads : goal.returns-in_err-reference-clause-reads
returns-in_err-reference-clause-reads c =
    clause_stops _ _ _ _ _ c.from_residual.ensures.1
    (clause_err _ _ _ _ c.loop-alloc.invariant _ _ c.index-clause-len.is c.len-in-loop-alloc.ensures _ c.loop-alloc-test.true c.len.ensures _ (at_header _ _ c.args.ty _ _ _ _ c.requires.file c.requires.inside c.in_err-reference.ensures))

pub loop-alloc-preserved : goal.loop-alloc-preserved
loop-alloc-preserved c =
    clause_more _ _ _ _ c.loop-alloc.invariant _ _ c.index-clause-len.is c.len-in-loop-alloc.ensures _ c.loop-alloc-test.true c.len.ensures _ _ c.in_ok-push.ensures.ok
    (at_header _ _ c.args.ty _ _ _ _ c.requires.file c.requires.inside c.in_ok-reference.ensures)
