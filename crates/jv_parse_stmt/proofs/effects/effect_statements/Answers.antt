use Rattle.std.proofs.Common.{◌-◌, ◌+◌, length, ap, sym, ◌∙◌, subst}
use Rattle.jv_tree.specs.StmtTree.{stmt_trees}
use Rattle.jv_grammar.specs.Reader.{Reads}
use Rattle.jv_grammar.specs.ExprReader.{below}
use Rattle.jv_grammar.specs.StmtReader.{effects_up_to}
use Rattle.jv_parse_expr.specs.View.{Fails}
use Rattle.jv_parse_expr.proofs.Faults.{refuses}
use Rattle.jv_parse_stmt.proofs.VariableTurns.{stmts_onto, some_stmts, as_stmts, effect_stmts_begin, effect_stmts_over, effect_stmts_failed, effect_stmts_done, effect_stmts_next}
use Rattle.jv_parse_stmt.proofs.effects.effect_statements.Goals as goal

pub loop-i-init : goal.loop-i-init
loop-i-init c = effect_stmts_begin (below c.args.fuel) c.new-items.result.items c.args.terminals.now c.new-items.ensures.items

pub returns-in-Err : goal.returns-in-Err
returns-in-Err c =
    subst (λ (r : Reads _). Fails c.in-Err.fault r) c.loop-i.invariant
    (effect_stmts_failed (below c.args.fuel) c.loop-i.items.items (length c.args.terminals.now) c.loop-i._i c.loop-i.rest.now c.loop-i-test.true c.in-Err.fault c.in-Err.ensures)

pub returns-in_default : goal.returns-in_default
returns-in_default c =
    sym c.loop-i.invariant
    ∙ effect_stmts_done (below c.args.fuel) c.loop-i.items.items (length c.args.terminals.now) c.loop-i._i c.loop-i.rest.now c.loop-i-test.true c.in-Ok.read.0 c.effect-in-loop-i.result c.in-Ok.read.1.now c.in-Ok.ensures c.effect-in-loop-i.ensures c.in_default.ensures
    ∙ ap (λ l. some_stmts c.in-Ok.read.1.now (stmt_trees l)) (sym c.in_ok-push.ensures.items)

pub loop-i-preserved : goal.loop-i-preserved
loop-i-preserved c =
    ap (λ l. stmts_onto l (as_stmts (effects_up_to (below c.args.fuel) (length c.args.terminals.now - (c.loop-i._i + 1)) c.in-Some.next.now))) c.in_ok-push.ensures.items
    ∙ effect_stmts_next (below c.args.fuel) c.loop-i.items.items (length c.args.terminals.now) c.loop-i._i c.loop-i.rest.now c.loop-i-test.true c.in-Ok.read.0 c.effect-in-loop-i.result c.in-Ok.read.1.now c.in-Ok.ensures c.effect-in-loop-i.ensures c.in-Some.next.now c.in-Some.ensures.0 c.in-Some.ensures.1
    ∙ c.loop-i.invariant

pub returns : goal.returns
returns c =
    refuses _ _ _ c.refused.ensures (sym c.loop-i.invariant ∙ effect_stmts_over (below c.args.fuel) c.loop-i.items.items (length c.args.terminals.now) c.loop-i._i c.loop-i.rest.now c.loop-i-test.false)
