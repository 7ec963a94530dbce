use Rattle.std.proofs.Common.{ℕ, ◌-◌, ◌+◌, sym, ap, ◌∙◌, subst, arith}
use Rattle.jv_tree.specs.ExprTree as t
use Rattle.jv_tree.specs.ExprTree.{ExprTrees, InitTrees, LinkTrees, expr_tree, expr_trees, init_trees, link_trees}
use Rattle.jv_grammar.specs.ExprGrammar.{at_of}
use Rattle.jv_grammar.specs.Reader.{Reads}
use Rattle.jv_grammar.specs.ExprReader.{Parsed, below, done, exprs_of, inits_of, sizes_of, links_of, bin_of}
use Rattle.jv_parse_expr.specs.View.{Fails, left, level_at, tighter_than}
use Rattle.jv_parse_expr.proofs.Faults.{refuses}
use Rattle.jv_parse_expr.proofs.ListTurns.{exprs_onto, inits_onto, sizes_onto, some_exprs, some_inits, exprs_begin, exprs_over, exprs_failed, exprs_done, exprs_next, inits_begin, inits_over, inits_failed, inits_refused, inits_ended, inits_next, sizes_begin, sizes_full, sizes_last, sizes_pairs, sizes_no_pairs, sizes_end, size_failed, size_refused, size_next}
use Rattle.jv_parse_expr.proofs.LinkTurns.{links_onto, links_begin, links_over, links_failed, links_done, links_next, unary_failed, unary_read, climbs_failed, climbs, sunk}
use Rattle.jv_parse_expr.proofs.SuffixTurns.{no_member, super_refused, suffixes_begin, suffixes_over, suffix_failed, suffix_done, suffix_next}
use Rattle.jv_parse_expr.proofs.+parser.Goals as goal

-- expressions with commas between them
pub lists::expressions-loop-i-init : goal.lists::expressions-loop-i-init
lists::expressions-loop-i-init t c = exprs_begin (below c.args.fuel).expr c.new-items.result.items c.args.count c.args.terminals.now c.new-items.ensures.items

pub lists::expressions-returns-in-Err : goal.lists::expressions-returns-in-Err
lists::expressions-returns-in-Err t c =
    subst (λ (r : Reads ExprTrees). Fails c.in-Err.fault r) c.loop-i.invariant
    (exprs_failed (below c.args.fuel).expr c.loop-i.items.items c.args.count c.loop-i._i c.loop-i.rest.now c.loop-i-test.true c.in-Err.fault c.in-Err.ensures)

pub lists::expressions-returns-in_default : goal.lists::expressions-returns-in_default
lists::expressions-returns-in_default t c =
    sym c.loop-i.invariant
    ∙ exprs_done (below c.args.fuel).expr c.loop-i.items.items c.args.count c.loop-i._i c.loop-i.rest.now c.loop-i-test.true c.in-Ok.read.0 c.in-Ok.read.1 c.in-Ok.read.2.now c.in-Ok.ensures c.in_default.ensures
    ∙ ap (λ l. some_exprs c.in-Ok.read.2.now (expr_trees l)) (sym c.in_ok-push.ensures.items)

pub lists::expressions-loop-i-preserved : goal.lists::expressions-loop-i-preserved
lists::expressions-loop-i-preserved t c =
    ap (λ l. exprs_onto l (exprs_of (below c.args.fuel).expr (c.args.count - (c.loop-i._i + 1)) c.in-Some.next.now)) c.in_ok-push.ensures.items
    ∙ exprs_next (below c.args.fuel).expr c.loop-i.items.items c.args.count c.loop-i._i c.loop-i.rest.now c.loop-i-test.true c.in-Ok.read.0 c.in-Ok.read.1 c.in-Ok.read.2.now c.in-Some.next.now c.in-Ok.ensures c.in-Some.ensures.0 c.in-Some.ensures.1
    ∙ c.loop-i.invariant

pub lists::expressions-returns : goal.lists::expressions-returns
lists::expressions-returns t c =
    refuses _ _ _ c.refused.ensures (sym c.loop-i.invariant ∙ exprs_over (below c.args.fuel).expr c.loop-i.items.items c.args.count c.loop-i._i c.loop-i.rest.now c.loop-i-test.false)

-- elements of a list
pub lists::elements-loop-i-init : goal.lists::elements-loop-i-init
lists::elements-loop-i-init t c = inits_begin (below c.args.fuel).init c.new-items.result.items c.args.count c.args.terminals.now c.new-items.ensures.items

pub lists::elements-returns-in-Err : goal.lists::elements-returns-in-Err
lists::elements-returns-in-Err t c =
    subst (λ (r : Reads InitTrees). Fails c.in-Err.fault r) c.loop-i.invariant
    (inits_failed (below c.args.fuel).init c.loop-i.items.items c.args.count c.loop-i._i c.loop-i.rest.now c.loop-i-test.true c.in-Err.fault c.in-Err.ensures)

pub lists::elements-returns-in-Err-separator : goal.lists::elements-returns-in-Err-separator
lists::elements-returns-in-Err-separator t c =
    subst (λ (r : Reads InitTrees). Fails c.in-Err-separator.fault r) c.loop-i.invariant
    (inits_refused (below c.args.fuel).init c.loop-i.items.items c.args.count c.loop-i._i c.loop-i.rest.now c.loop-i-test.true c.in-Ok.read.0 c.in-Ok.read.1.now c.in-Ok.ensures c.in-Err-separator.fault c.in-Err-separator.ensures)

pub lists::elements-returns-then-not-goes_on : goal.lists::elements-returns-then-not-goes_on
lists::elements-returns-then-not-goes_on t c =
    sym c.loop-i.invariant
    ∙ inits_ended (below c.args.fuel).init c.loop-i.items.items c.args.count c.loop-i._i c.loop-i.rest.now c.loop-i-test.true c.in-Ok.read.0 c.in-Ok.read.1.now c.in-Ok.ensures c.in-Ok-separator.read.0 c.in-Ok-separator.read.1.now c.in-Ok-separator.ensures c.if-not-goes_on.true
    ∙ ap (λ l. some_inits c.in-Ok-separator.read.1.now (init_trees l)) (sym c.in_ok-push.ensures.items)

pub lists::elements-loop-i-preserved : goal.lists::elements-loop-i-preserved
lists::elements-loop-i-preserved t c =
    ap (λ l. inits_onto l (inits_of (below c.args.fuel).init (c.args.count - (c.loop-i._i + 1)) c.in-Ok-separator.read.1.now)) c.in_ok-push.ensures.items
    ∙ inits_next (below c.args.fuel).init c.loop-i.items.items c.args.count c.loop-i._i c.loop-i.rest.now c.loop-i-test.true c.in-Ok.read.0 c.in-Ok.read.1.now c.in-Ok.ensures c.in-Ok-separator.read.0 c.in-Ok-separator.read.1.now c.in-Ok-separator.ensures c.if-not-goes_on.false
    ∙ c.loop-i.invariant

pub lists::elements-returns : goal.lists::elements-returns
lists::elements-returns t c =
    refuses _ _ _ c.refused.ensures (sym c.loop-i.invariant ∙ inits_over (below c.args.fuel).init c.loop-i.items.items c.args.count c.loop-i._i c.loop-i.rest.now c.loop-i-test.false)

-- sizes
pub lists::sizes-loop-i-init : goal.lists::sizes-loop-i-init
lists::sizes-loop-i-init t c = sizes_begin (below c.args.fuel).expr c.new-items.result.items c.args.room c.args.terminals.now c.new-items.ensures.items

pub lists::sizes-returns-in-Err : goal.lists::sizes-returns-in-Err
lists::sizes-returns-in-Err t c =
    subst (λ (r : Reads (ExprTrees × ℕ)). Fails c.in-Err.fault r) c.loop-i.invariant
    (sizes_no_pairs (below c.args.fuel).expr c.loop-i.items.items c.args.room c.loop-i.i c.loop-i.rest.now c.loop-i-test.true (sym c.if-starts_pair.ensures) c.in-Err.fault c.in-Err.ensures)

pub lists::sizes-returns-then-starts_pair : goal.lists::sizes-returns-then-starts_pair
lists::sizes-returns-then-starts_pair t c =
    sym c.loop-i.invariant
    ∙ sizes_pairs (below c.args.fuel).expr c.loop-i.items.items c.args.room c.loop-i.i c.loop-i.rest.now c.loop-i-test.true (sym c.if-starts_pair.ensures) c.in-Ok.read.0 c.in-Ok.read.1.now c.in-Ok.ensures

pub lists::sizes-returns-in_default : goal.lists::sizes-returns-in_default
lists::sizes-returns-in_default t c =
    sym c.loop-i.invariant
    ∙ sizes_end (below c.args.fuel).expr c.loop-i.items.items c.args.room c.loop-i.i c.loop-i.rest.now c.loop-i-test.true (sym c.if-starts_pair.ensures) c.in_default.ensures

pub lists::sizes-returns-in-Err-nested_expression : goal.lists::sizes-returns-in-Err-nested_expression
lists::sizes-returns-in-Err-nested_expression t c =
    subst (λ (r : Reads (ExprTrees × ℕ)). Fails c.in-Err-nested_expression.fault r) c.loop-i.invariant
    (size_failed (below c.args.fuel).expr c.loop-i.items.items c.args.room c.loop-i.i c.loop-i.rest.now c.loop-i-test.true c.in-Some.open.now (sym c.if-starts_pair.ensures) c.in-Some.ensures.0 c.in-Some.ensures.1 c.in-Err-nested_expression.fault c.in-Err-nested_expression.ensures)

pub lists::sizes-returns-in_default-behind : goal.lists::sizes-returns-in_default-behind
lists::sizes-returns-in_default-behind t c =
    ap (λ (r : Reads (ExprTrees × ℕ)). left r) (sym c.loop-i.invariant
    ∙ size_refused (below c.args.fuel).expr c.loop-i.items.items c.args.room c.loop-i.i c.loop-i.rest.now c.loop-i-test.true c.in-Some.open.now (sym c.if-starts_pair.ensures) c.in-Some.ensures.0 c.in-Some.ensures.1
    c.in-Ok-nested_expression.read.0 (expr_tree c.in-Ok-nested_expression.read.1) c.in-Ok-nested_expression.read.2.now c.in-Ok-nested_expression.ensures c.in_default-behind.ensures)

pub lists::sizes-loop-i-preserved : goal.lists::sizes-loop-i-preserved
lists::sizes-loop-i-preserved t c =
    ap (λ l. sizes_onto l (sizes_of (below c.args.fuel).expr (c.args.room - (c.loop-i.i + 1)) c.in-Some-behind.next.now)) c.in_ok-push.ensures.items
    ∙ size_next (below c.args.fuel).expr c.loop-i.items.items c.args.room c.loop-i.i c.loop-i.rest.now c.loop-i-test.true c.in-Some.open.now (sym c.if-starts_pair.ensures) c.in-Some.ensures.0 c.in-Some.ensures.1
    c.in-Ok-nested_expression.read.0 c.in-Ok-nested_expression.read.1 c.in-Ok-nested_expression.read.2.now c.in-Some-behind.next.now c.in-Ok-nested_expression.ensures c.in-Some-behind.ensures.0 c.in-Some-behind.ensures.1
    ∙ c.loop-i.invariant

pub lists::sizes-returns-then-starts : goal.lists::sizes-returns-then-starts
lists::sizes-returns-then-starts t c =
    ap (λ (r : Reads (ExprTrees × ℕ)). left r) (sym c.loop-i.invariant
    ∙ sizes_full (below c.args.fuel).expr c.loop-i.items.items c.args.room c.loop-i.i c.loop-i.rest.now c.loop-i-test.false (sym c.if-starts.ensures))

pub lists::sizes-returns : goal.lists::sizes-returns
lists::sizes-returns t c =
    sym c.loop-i.invariant
    ∙ sizes_last (below c.args.fuel).expr c.loop-i.items.items c.args.room c.loop-i.i c.loop-i.rest.now c.loop-i-test.false (sym c.if-starts.ensures)

-- members and suffixes
pub primaries::member-returns-in_default : goal.primaries::member-returns-in_default
primaries::member-returns-in_default m c =
    refuses _ _ _ c.refused.ensures
    (no_member (below c.args.fuel).expr done (at_of (expr_tree c.args.object)) (t.on (expr_tree c.args.object)) (t.field (expr_tree c.args.object)) c.args.terminals.now c.in_default.ensures)

pub primaries::super_member-returns-in_default-identifier : goal.primaries::super_member-returns-in_default-identifier
primaries::super_member-returns-in_default-identifier m c =
    refuses _ _ _ c.refused-in_default-identifier.ensures
    (super_refused (below c.args.fuel) c.args.at c.args.terminals.now c.in-Some.dotted.now c.in-Some.ensures.0 c.in-Some.ensures.1 c.in_default-identifier.ensures)

pub primaries::suffixes-loop-i-init : goal.primaries::suffixes-loop-i-init
primaries::suffixes-loop-i-init m c = suffixes_begin (below c.args.fuel) c.args.count c.args.form (expr_tree c.args.head) c.args.terminals.now

pub primaries::suffixes-returns-in-Err : goal.primaries::suffixes-returns-in-Err
primaries::suffixes-returns-in-Err m c =
    subst (λ (r : Reads Parsed). Fails c.in-Err.fault r) c.loop-i.invariant
    (suffix_failed (below c.args.fuel) c.loop-i.outer (expr_tree c.loop-i.inner) c.args.count c.loop-i._i c.loop-i.rest.now c.loop-i-test.true c.in-Err.fault c.in-Err.ensures)

pub primaries::suffixes-returns-in_default : goal.primaries::suffixes-returns-in_default
primaries::suffixes-returns-in_default m c =
    sym c.loop-i.invariant
    ∙ suffix_done (below c.args.fuel) c.loop-i.outer (expr_tree c.loop-i.inner) c.args.count c.loop-i._i c.loop-i.rest.now c.loop-i-test.true c.in-Ok.read.0 (expr_tree c.in-Ok.read.1) c.in-Ok.read.2.now c.in-Ok.ensures c.in_default.is

pub primaries::suffixes-loop-i-preserved : goal.primaries::suffixes-loop-i-preserved
primaries::suffixes-loop-i-preserved m c =
    suffix_next (below c.args.fuel) c.loop-i.outer (expr_tree c.loop-i.inner) c.args.count c.loop-i._i c.loop-i.rest.now c.loop-i-test.true c.in-Ok.read.0 c.in-Some.next (expr_tree c.in-Ok.read.1) c.in-Ok.read.2.now c.in-Ok.ensures c.in-Some.is
    ∙ c.loop-i.invariant

pub primaries::suffixes-returns : goal.primaries::suffixes-returns
primaries::suffixes-returns m c =
    refuses _ _ _ c.refused.ensures (sym c.loop-i.invariant ∙ suffixes_over (below c.args.fuel) c.args.count c.loop-i._i c.loop-i.outer (expr_tree c.loop-i.inner) c.loop-i.rest.now c.loop-i-test.false)

-- operators
pub expressions::links-loop-i-init : goal.expressions::links-loop-i-init
expressions::links-loop-i-init m c = record {
  in_levels = c.requires;
  goes = links_begin (bin_of (below c.args.fuel) (tighter_than c.args.level)) (level_at c.args.level) c.new-items.result.items c.args.count c.args.terminals.now c.new-items.ensures.items;
}

pub expressions::links-returns-in-Err : goal.expressions::links-returns-in-Err
expressions::links-returns-in-Err m c =
    subst (λ (r : Reads LinkTrees). Fails c.in-Err.fault r) c.loop-i.invariant.goes
    (links_failed (bin_of (below c.args.fuel) (tighter_than c.args.level)) (level_at c.args.level) c.loop-i.items.items c.args.count c.loop-i._i c.loop-i.rest.now c.loop-i-test.true c.in-Err.fault c.in-Err.ensures)

pub expressions::links-returns-in_default : goal.expressions::links-returns-in_default
expressions::links-returns-in_default m c =
    sym c.loop-i.invariant.goes
    ∙ links_done (bin_of (below c.args.fuel) (tighter_than c.args.level)) (level_at c.args.level) c.loop-i.items.items c.args.count c.loop-i._i c.loop-i.rest.now c.loop-i-test.true c.in-Ok.read.0 c.in-Ok.read.1.now c.in-Ok.ensures c.in_default.is

pub expressions::links-loop-i-preserved : goal.expressions::links-loop-i-preserved
expressions::links-loop-i-preserved m c = record {
  in_levels = c.loop-i.invariant.in_levels;
  goes =
      ap (λ l. links_onto l (links_of (bin_of (below c.args.fuel) (tighter_than c.args.level)) (level_at c.args.level) (c.args.count - (c.loop-i._i + 1)) c.in-Ok.read.1.now)) c.in_ok-push.ensures.items
      ∙ links_next (bin_of (below c.args.fuel) (tighter_than c.args.level)) (level_at c.args.level) c.loop-i.items.items c.args.count c.loop-i._i c.loop-i.rest.now c.loop-i-test.true c.in-Ok.read.0 c.in-Some.item c.in-Ok.read.1.now c.in-Ok.ensures c.in-Some.is
      ∙ c.loop-i.invariant.goes;
}

pub expressions::links-returns : goal.expressions::links-returns
expressions::links-returns m c =
    refuses _ _ _ c.refused.ensures (sym c.loop-i.invariant.goes ∙ links_over (bin_of (below c.args.fuel) (tighter_than c.args.level)) (level_at c.args.level) c.loop-i.items.items c.args.count c.loop-i.rest.now c.loop-i._i c.loop-i-test.false)

pub expressions::binary-returns-in-Err : goal.expressions::binary-returns-in-Err
expressions::binary-returns-in-Err m c = unary_failed (below c.args.fuel) c.args.level c.args.terminals.now c.requires c.in-Err.fault c.in-Err.ensures

pub expressions::binary-loop-next-init : goal.expressions::binary-loop-next-init
expressions::binary-loop-next-init m c = record {
  in_levels = omega arith;
  from_level = c.requires;
  goes = unary_read (below c.args.fuel) c.args.terminals.now (c.in-Ok.read.0, expr_tree c.in-Ok.read.1) c.in-Ok.read.2.now c.in-Ok.ensures;
}

pub expressions::binary-returns-in-Err-links : goal.expressions::binary-returns-in-Err-links
expressions::binary-returns-in-Err-links m c =
    climbs_failed (below c.args.fuel) c.in-Some.next c.loop-next.held c.args.terminals.now c.loop-next.invariant.in_levels c.in-Some.ensures.1 (c.loop-next.outer, expr_tree c.loop-next.inner)
    c.loop-next.rest.now c.loop-next.invariant.goes c.in-Some.ensures.2 c.args.level c.in-Some.ensures.0 c.in-Err-links.fault c.in-Err-links.ensures

pub expressions::binary-loop-next-preserved : goal.expressions::binary-loop-next-preserved
expressions::binary-loop-next-preserved m c = record {
  in_levels = omega (arith, c.loop-next.invariant.in_levels, c.in-Some.ensures.1);
  from_level = c.in-Some.ensures.0;
  goes =
      climbs (below c.args.fuel) c.in-Some.next c.loop-next.held c.args.terminals.now c.loop-next.invariant.in_levels c.in-Some.ensures.1 (c.loop-next.outer, expr_tree c.loop-next.inner)
      c.loop-next.rest.now c.loop-next.invariant.goes c.in-Some.ensures.2 (link_trees c.in-Ok-links.read.0.items) c.in-Ok-links.read.1.now
      (c.in-Ok-with_links.whole.0, expr_tree c.in-Ok-with_links.whole.1) c.in-Ok-links.ensures c.in-Ok-with_links.ensures;
}

pub expressions::binary-returns : goal.expressions::binary-returns
expressions::binary-returns m c =
    sunk (below c.args.fuel) c.args.level c.loop-next.held c.args.terminals.now c.loop-next.invariant.in_levels c.loop-next.invariant.from_level (c.loop-next.outer, expr_tree c.loop-next.inner)
    c.loop-next.rest.now c.loop-next.invariant.goes c.in_default.ensures
