use Rattle.std.proofs.Common.{◌-◌, ◌+◌, sym, ap, ◌∙◌, subst}
use borrow.Author.Tests.{eqb-true}
use Rattle.jv_grammar.specs.DeclReader.{types_of}
use Rattle.jv_parse_expr.specs.View.{Fails}
use Rattle.jv_parse_expr.proofs.Faults.{refuses}
use Rattle.jv_parse_expr.proofs.LinkTurns.{pos_of}
use Rattle.jv_parse.proofs.FileTurns.{Types, types_onto, types_begin, types_over, types_done, types_skip, types_failed, types_next}
use Rattle.jv_parse.proofs.declarations.files.types.Goals as goal

pub loop-i-init : goal.loop-i-init
loop-i-init c = types_begin c.args.fuel c.args.count c.new-items.result.items c.args.terminals.now c.new-items.ensures.items

pub returns-then-is_empty : goal.returns-then-is_empty
returns-then-is_empty c =
    sym c.loop-i.invariant ∙ types_done c.args.fuel c.args.count c.loop-i._i c.loop-i.items.items c.loop-i.rest.now (eqb-true _ _ (sym c.if-is_empty.ensures))

pub loop-i-preserved-in-Some : goal.loop-i-preserved-in-Some
loop-i-preserved-in-Some c =
    types_skip c.args.fuel c.args.count c.loop-i._i c.loop-i.items.items c.loop-i.rest.now c.loop-i-test.true (pos_of _ c.if-is_empty.ensures)
    c.in-Some.next.now c.in-Some.ensures.0 c.in-Some.ensures.1
    ∙ c.loop-i.invariant

pub returns-in-Err : goal.returns-in-Err
returns-in-Err c =
    subst (λ (r : Types). Fails c.in-Err.fault r) c.loop-i.invariant
    (types_failed c.args.fuel c.args.count c.loop-i._i c.loop-i.items.items c.loop-i.rest.now c.loop-i-test.true (pos_of _ c.if-is_empty.ensures)
    c.in_default.ensures c.in-Err.fault c.in-Err.ensures)

pub loop-i-preserved : goal.loop-i-preserved
loop-i-preserved c =
    ap (λ l. types_onto l (types_of c.args.fuel (c.args.count - (c.loop-i._i + 1)) c.in-Ok.read.1.now)) c.in_ok-push.ensures.items
    ∙ types_next c.args.fuel c.args.count c.loop-i._i c.loop-i.items.items c.loop-i.rest.now c.loop-i-test.true (pos_of _ c.if-is_empty.ensures)
    c.in_default.ensures c.in-Ok.read.0 c.in-Ok.read.1.now c.in-Ok.ensures
    ∙ c.loop-i.invariant

pub returns-then-not-is_empty : goal.returns-then-not-is_empty
returns-then-not-is_empty c =
    refuses _ _ _ c.refused.ensures
    (sym c.loop-i.invariant ∙ types_over c.args.fuel c.args.count c.loop-i._i c.loop-i.items.items c.loop-i.rest.now c.loop-i-test.false (pos_of _ c.if-not-is_empty.ensures))

pub returns : goal.returns
returns c =
    sym c.loop-i.invariant ∙ types_done c.args.fuel c.args.count c.loop-i._i c.loop-i.items.items c.loop-i.rest.now (eqb-true _ _ (sym c.if-not-is_empty.ensures))
