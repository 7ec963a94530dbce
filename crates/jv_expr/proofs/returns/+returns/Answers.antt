use Rattle.jv_expr.proofs.ReturnSteps.{block_returns, branches_begin, for_found, for_last}
use Rattle.jv_expr.proofs.returns.+returns.Goals as goal

pub branch_returns-loop-branch-init : goal.branch_returns-loop-branch-init
branch_returns-loop-branch-init t c = branches_begin c.args.s.now c.in-If.branches c.in-If.field-1 c.deref-branch-items.result.now c.in-If.is c.deref-branch-items.ensures.value

pub has_return-returns-in-Block : goal.has_return-returns-in-Block
has_return-returns-in-Block t c = block_returns c.args.s.now c.in-Block.ss c.deref.result.now c.some_return.result c.in-Block.is c.deref.ensures.value c.some_return.ensures

pub has_return-returns-then-some_return : goal.has_return-returns-then-some_return
has_return-returns-then-some_return t c = for_found c.args.s.now c.in-For.first c.in-For.field-1 c.in-For.field-2 c.in-For.body c.deref-in-For.result.now c.some_return-in-For.result c.in-For.is c.deref-in-For.ensures.value c.some_return-in-For.ensures c.if-some_return.true

pub has_return-returns-else-some_return : goal.has_return-returns-else-some_return
has_return-returns-else-some_return t c =
    for_last c.args.s.now c.in-For.first c.in-For.field-1 c.in-For.field-2 c.in-For.body c.deref-in-For.result.now c.some_return-in-For.result c.in-For.is c.deref-in-For.ensures.value c.some_return-in-For.ensures c.deref-else-some_return.result.now c.has_return-else-some_return.result c.if-some_return.false
    c.deref-else-some_return.ensures c.has_return-else-some_return.ensures
