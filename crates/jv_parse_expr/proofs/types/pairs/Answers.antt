use Rattle.std.proofs.Common.{sym, ◌∙◌}
use Rattle.jv_parse_expr.proofs.Faults.{refuses}
use Rattle.jv_parse_expr.proofs.TypeTurns.{pairs_begin, pairs_done, pairs_refused, pairs_next, pairs_full, pairs_last}
use Rattle.jv_parse_expr.proofs.types.pairs.Goals as goal

pub loop-dims-init : goal.loop-dims-init
loop-dims-init c = pairs_begin c.args.room c.args.terminals.now

pub returns-in_default : goal.returns-in_default
returns-in_default c = sym c.loop-dims.invariant ∙ pairs_done c.args.room c.loop-dims.dims c.loop-dims.rest.now c.loop-dims-test.true c.in_default.ensures

pub returns-in_default-behind : goal.returns-in_default-behind
returns-in_default-behind c =
    refuses _ _ _ c.refused.ensures
    (sym c.loop-dims.invariant ∙ pairs_refused c.args.room c.loop-dims.dims c.loop-dims.rest.now c.loop-dims-test.true c.in-Some.open.now c.in-Some.ensures.0 c.in-Some.ensures.1 c.in_default-behind.ensures)

pub loop-dims-preserved : goal.loop-dims-preserved
loop-dims-preserved c =
    pairs_next c.args.room c.loop-dims.dims c.loop-dims.rest.now c.loop-dims-test.true c.in-Some.open.now c.in-Some-behind.after.now c.in-Some.ensures.0 c.in-Some.ensures.1 c.in-Some-behind.ensures.0 c.in-Some-behind.ensures.1
    ∙ c.loop-dims.invariant

pub returns-then-starts : goal.returns-then-starts
returns-then-starts c =
    refuses _ _ _ c.refused-then-starts.ensures
    (sym c.loop-dims.invariant ∙ pairs_full c.args.room c.loop-dims.dims c.loop-dims.rest.now c.loop-dims-test.false (sym c.if-starts.ensures))

pub returns : goal.returns
returns c = sym c.loop-dims.invariant ∙ pairs_last c.args.room c.loop-dims.dims c.loop-dims.rest.now c.loop-dims-test.false (sym c.if-starts.ensures) c.loop-dims.auto.dims-end
