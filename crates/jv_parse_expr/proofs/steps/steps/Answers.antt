use Rattle.std.proofs.Common.{ap, sym, ◌∙◌}
use Rattle.jv_tree.specs.ExprTree.{expr_tree}
use Rattle.jv_grammar.specs.declared.form.Form.TheVariants.{Effect}
use Rattle.jv_grammar.specs.ExprReader.{steps_of}
use Rattle.jv_parse_expr.specs.View.{stepped}
use Rattle.jv_parse_expr.proofs.StepTurns.{step_next}
use Rattle.jv_parse_expr.proofs.steps.steps.Goals as goal

pub loop-place-preserved : goal.loop-place-preserved
loop-place-preserved c =
    ap (λ z. steps_of Effect z c.in-Some.after.now) c.in-Ok.ensures
    ∙ step_next c.loop-place.outer (expr_tree c.loop-place.inner) c.in-Some.place c.in-Some.mark c.loop-place.rest.now c.in-Some.after.now c.in-Some.ensures.0 c.in-Some.ensures.1
    ∙ c.loop-place.invariant

pub returns : goal.returns
returns c = ap stepped (sym c.loop-place.invariant ∙ c.in_default.ensures c.loop-place.outer (expr_tree c.loop-place.inner))
