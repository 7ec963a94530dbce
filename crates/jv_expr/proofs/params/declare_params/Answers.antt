use Rattle.std.proofs.Common.{refl}
use Rattle.jv_expr.specs.Sites.{site_of}
use Rattle.jv_expr.proofs.Parameters.{next_param, no_more_params}
use Rattle.jv_expr.proofs.params.declare_params.Goals as goal

pub loop-param-preserved : goal.loop-param-preserved
loop-param-preserved c = λ r h. c.loop-param.invariant r (next_param (site_of c.args.site.now) _ _ _ _ _ _ _ c.loop-param-test.true c.param-item.is _ _ _ _ c.first_type-ty.ensures c.rest_types-left.ensures c.in_ok-declare.ensures.declared h)

pub returns : goal.returns
returns c = c.loop-param.invariant _ (no_more_params (site_of c.args.site.now) _ _ _ _ _ _ c.loop-param-test.false refl)
