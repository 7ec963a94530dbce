use Rattle.std.proofs.Common.{◌++◌, ◌∷◌, [], ap, sym, ◌∙◌}
use Rattle.jv_grammar.specs.ExprReader.{run_of}
use Rattle.jv_parse_expr.proofs.NameTurns.{ids_onto, run_on, run_begins, run_next, run_done}
use Rattle.jv_parse_expr.proofs.heads.longest_name.Goals as goal

pub loop-next-init : goal.loop-next-init
loop-next-init c = run_begins c.args.first c.args.terminals.now c.push.new.self.items (c.in_ok-push.ensures.items ∙ ap (λ l. l ++ c.args.first ∷ []) c.new-ids.ensures.items)

pub loop-next-preserved : goal.loop-next-preserved
loop-next-preserved c =
    ap (λ l. ids_onto l (run_on (run_of c.in-Some.after.now))) c.in_ok-push-2.ensures.items
    ∙ run_next c.loop-next.ids.items c.in-Some.next c.loop-next.rest.now c.in-Some.after.now c.in-Some.ensures.0
    ∙ c.loop-next.invariant

pub returns : goal.returns
returns c = sym c.loop-next.invariant ∙ run_done c.loop-next.ids.items c.loop-next.rest.now c.in_default.ensures
