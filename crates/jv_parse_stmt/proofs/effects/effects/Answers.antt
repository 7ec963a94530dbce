use Rattle.std.proofs.Common.{◌-◌, ◌+◌, length, ap, sym, ◌∙◌, subst}
use Rattle.jv_tree.specs.ExprTree.{expr_trees}
use Rattle.jv_grammar.specs.Reader.{Reads}
use Rattle.jv_grammar.specs.ExprReader.{below}
use Rattle.jv_grammar.specs.StmtReader.{effects_up_to}
use Rattle.jv_parse_expr.specs.View.{Fails}
use Rattle.jv_parse_expr.proofs.Faults.{refuses}
use Rattle.jv_parse_expr.proofs.ListTurns.{exprs_onto, some_exprs}
use Rattle.jv_parse_stmt.proofs.VariableTurns.{effects_begin, effects_over, effects_failed, effects_done, effects_next}
use Rattle.jv_parse_stmt.proofs.effects.effects.Goals as goal

pub loop-i-init : goal.loop-i-init
loop-i-init c = effects_begin (below c.args.fuel) c.new-items.result.items c.args.terminals.now c.new-items.ensures.items

pub returns-in-Err : goal.returns-in-Err
returns-in-Err c =
    subst (λ (r : Reads _). Fails c.in-Err.fault r) c.loop-i.invariant
    (effects_failed (below c.args.fuel) c.loop-i.items.items (length c.args.terminals.now) c.loop-i._i c.loop-i.rest.now c.loop-i-test.true c.in-Err.fault c.in-Err.ensures)

pub returns-in_default : goal.returns-in_default
returns-in_default c =
    sym c.loop-i.invariant
    ∙ effects_done (below c.args.fuel) c.loop-i.items.items (length c.args.terminals.now) c.loop-i._i c.loop-i.rest.now c.loop-i-test.true c.in-Ok.read.0 c.in-Ok.read.1.now c.in-Ok.ensures c.in_default.ensures
    ∙ ap (λ l. some_exprs c.in-Ok.read.1.now (expr_trees l)) (sym c.in_ok-push.ensures.items)

pub loop-i-preserved : goal.loop-i-preserved
loop-i-preserved c =
    ap (λ l. exprs_onto l (effects_up_to (below c.args.fuel) (length c.args.terminals.now - (c.loop-i._i + 1)) c.in-Some.next.now)) c.in_ok-push.ensures.items
    ∙ effects_next (below c.args.fuel) c.loop-i.items.items (length c.args.terminals.now) c.loop-i._i c.loop-i.rest.now c.loop-i-test.true c.in-Ok.read.0 c.in-Ok.read.1.now c.in-Some.next.now c.in-Ok.ensures c.in-Some.ensures.0 c.in-Some.ensures.1
    ∙ c.loop-i.invariant

pub returns : goal.returns
returns c =
    refuses _ _ _ c.refused.ensures (sym c.loop-i.invariant ∙ effects_over (below c.args.fuel) c.loop-i.items.items (length c.args.terminals.now) c.loop-i._i c.loop-i.rest.now c.loop-i-test.false)
