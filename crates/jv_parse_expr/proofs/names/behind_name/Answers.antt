use Rattle.std.proofs.Common.{sym, ◌∙◌, refl}
use Rattle.jv_parse_expr.proofs.NameTurns.{no_name, past_begins, past_next, past_refused}
use Rattle.jv_parse_expr.proofs.names.behind_name.Goals as goal

pub returns-in_err-after : goal.returns-in_err-after
returns-in_err-after c = rw (c.from_residual.ensures, no_name _ c.in_err-after.ensures) refl

pub loop-dotted-init : goal.loop-dotted-init
loop-dotted-init c = past_begins c.in_ok-after.field-0-0 _ _ c.in_ok-after.ensures

pub returns-in_default-identifier : goal.returns-in_default-identifier
returns-in_default-identifier c = sym c.loop-dotted.invariant ∙ past_refused c.loop-dotted.rest.now _ c.in-Some.ensures.0 c.in-Some.ensures.1 c.in_default-identifier.ensures

pub loop-dotted-preserved : goal.loop-dotted-preserved
loop-dotted-preserved c = past_next c.in-Some-identifier.field-0-0 c.loop-dotted.rest.now _ _ c.in-Some.ensures.0 c.in-Some.ensures.1 c.in-Some-identifier.ensures ∙ c.loop-dotted.invariant
