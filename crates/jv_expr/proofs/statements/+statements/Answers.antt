use Rattle.std.proofs.Common.{Err, refl}
use Rattle.jv_expr.proofs.Locals.{adds_more}
use Rattle.jv_expr.proofs.StatementEnds.{scope_stops}
use Rattle.jv_expr.proofs.StatementCases.{for_stops_first, for_stops_second, for_ends}
use Rattle.jv_expr.proofs.StatementLists.{all_halt, branches_end, branches_halt, branches_next}
use Rattle.jv_expr.proofs.statements.+statements.Goals as goal

pub check_all-returns-in_err-check_statement-clause-reads : goal.check_all-returns-in_err-check_statement-clause-reads
check_all-returns-in_err-check_statement-clause-reads t c = scope_stops _ _ _ _ c.from_residual.ensures.1 _ _ (c.loop-s.invariant.reads (Err _) (all_halt _ _ _ _ _ _ _ _ _ _ c.deref-s-items.ensures.value c.loop-s-test.true c.s-item.is c.in_err-check_statement.ensures.reads))

pub check_branches-loop-branch-preserved : goal.check_branches-loop-branch-preserved
check_branches-loop-branch-preserved t c = record {
  reads = λ x h. c.loop-branch.invariant.reads x (branches_next _ _ _ _ _ _ _ _ _ _ _ _ _ _ x c.loop-branch-test.true c.branch-item.is c.as_slice.ensures.value refl refl c.in_ok-check_condition-in-If.ensures c.in_ok-check_statement-in-If.ensures.reads h);
  grows = adds_more _ _ c.loop-branch.invariant.grows _ c.in_ok-check_statement-in-If.ensures.grows;
}

pub check_branches-returns-in_err-check_condition-in-If-clause-reads :
    goal.check_branches-returns-in_err-check_condition-in-If-clause-reads
check_branches-returns-in_err-check_condition-in-If-clause-reads t c = scope_stops _ _ _ _ c.from_residual.ensures.1 _ _ (c.loop-branch.invariant.reads (Err _) (branches_halt _ _ _ _ _ _ _ _ _ _ _ c.loop-branch-test.true c.branch-item.is c.as_slice.ensures.value refl c.in_err-check_condition-in-If.ensures))

pub check_branches-returns-after-loop-branch-clause-reads :
    goal.check_branches-returns-after-loop-branch-clause-reads
check_branches-returns-after-loop-branch-clause-reads t c = c.loop-branch.invariant.reads _ (branches_end _ _ _ _ _ _ _ _ c.loop-branch-test.false refl)

pub check_statement-returns-in_err-check_all-in-For-clause-reads :
    goal.check_statement-returns-in_err-check_all-in-For-clause-reads
check_statement-returns-in_err-check_all-in-For-clause-reads t c = scope_stops _ _ _ _ c.from_residual-in_err-check_all-in-For.ensures.1 _ _ (for_stops_first _ _ _ _ _ _ _ _ _ _ c.in-For.is _ c.in_err-check_all-in-For.ensures.reads)

pub check_statement-returns-in_err-check_rounds-in-For-clause-reads :
    goal.check_statement-returns-in_err-check_rounds-in-For-clause-reads
check_statement-returns-in_err-check_rounds-in-For-clause-reads t c = scope_stops _ _ _ _ c.from_residual-in_err-check_rounds-in-For.ensures.1 _ _ (for_stops_second _ _ _ _ _ _ _ _ _ _ c.in-For.is _ c.deref-in-For.ensures _ _ c.in_ok-check_all-in-For.ensures.reads _ c.in_err-check_rounds-in-For.ensures.reads)

pub check_statement-returns-in_ok-check_rounds-in-For-clause-reads :
    goal.check_statement-returns-in_ok-check_rounds-in-For-clause-reads
check_statement-returns-in_ok-check_rounds-in-For-clause-reads t c = for_ends _ _ _ _ _ _ _ _ _ _ c.in-For.is _ c.deref-in-For.ensures _ _ c.in_ok-check_all-in-For.ensures.reads _ _ _ _ c.count-n.ensures c.truncate.ensures.items c.in_ok-check_rounds-in-For.ensures.reads
