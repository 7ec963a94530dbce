use Rattle.jv_expr.proofs.Declared.{variables_next}
use Rattle.jv_expr.proofs.Locals.{adds_more}
use Rattle.jv_expr.proofs.declaring.check_variables.Goals as goal

pub loop-var-preserved : goal.loop-var-preserved
loop-var-preserved c = record {
  reads = λ x h. c.loop-var.invariant.reads x (variables_next _ _ _ _ _ _ _ _ _ _ _ _ x c.deref-var-items.ensures.value c.loop-var-test.true c.var-item.is c.in_ok-check_variable.ensures.reads h);
  grows = adds_more _ _ c.loop-var.invariant.grows _ c.in_ok-check_variable.ensures.grows;
}
