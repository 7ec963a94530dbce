use Rattle.std.proofs.Common.{◌++◌, ◌∷◌, [], ap, sym, ◌∙◌}
use Rattle.jv_parse_expr.proofs.Faults.{refuses}
use Rattle.jv_parse_expr.proofs.NameTurns.{no_name, name_begins, name_next, name_refused, dots, ids_onto}
use Rattle.jv_parse_expr.proofs.names.name.Goals as goal

pub returns-in_default : goal.returns-in_default
returns-in_default c = refuses _ _ _ c.refused.ensures (no_name _ c.in_default.ensures)

pub loop-dotted-init : goal.loop-dotted-init
loop-dotted-init c = name_begins _ _ _ _ c.in-Some.ensures (c.in_ok-push.ensures.items ∙ ap (λ l. l ++ c.in-Some.first ∷ []) c.new-ids.ensures.items)

pub returns-in_default-identifier : goal.returns-in_default-identifier
returns-in_default-identifier c =
    refuses _ _ _ c.refused-in_default-identifier.ensures
    (sym c.loop-dotted.invariant ∙ name_refused c.loop-dotted.ids.items c.loop-dotted.rest.now _ c.in-Some-behind.ensures.0 c.in-Some-behind.ensures.1 c.in_default-identifier.ensures)

pub loop-dotted-preserved : goal.loop-dotted-preserved
loop-dotted-preserved c =
    ap (λ l. ids_onto l (dots c.in-Some-identifier.after.now)) c.in_ok-push-2.ensures.items
    ∙ name_next c.loop-dotted.ids.items c.in-Some-identifier.next c.loop-dotted.rest.now _ _ c.in-Some-behind.ensures.0 c.in-Some-behind.ensures.1 c.in-Some-identifier.ensures
    ∙ c.loop-dotted.invariant
