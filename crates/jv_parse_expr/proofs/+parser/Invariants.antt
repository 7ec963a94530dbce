use Rattle.std.proofs.Common.{◌≡◌, ◌+◌, ◌-◌, ◌*◌, ◌<◌, ◌≤◌, drop, Ok}
use Rattle.jv_tree.specs.ExprTree.{expr_tree}
use Rattle.jv_tree.specs.Shaped.{levels}
use Rattle.jv_grammar.specs.ExprReader.{below, exprs_of, inits_of, sizes_of, suffixes_of, links_of, bin_of}
use Rattle.jv_parse_expr.specs.View.{level_at, tighter_than}
use Rattle.jv_parse_expr.proofs.ListTurns.{exprs_onto, inits_onto, sizes_onto}
use Rattle.jv_parse_expr.proofs.LinkTurns.{links_onto}
use Rattle.jv_parse_expr.proofs.+parser.Given as goal

abbrev pub decreases-expressions::initializer : goal.decreases-expressions::initializer
decreases-expressions::initializer l = 64 * l.fuel + 52

abbrev pub decreases-expressions::expression : goal.decreases-expressions::expression
decreases-expressions::expression l = 64 * l.fuel + 51

abbrev pub decreases-expressions::conditional : goal.decreases-expressions::conditional
decreases-expressions::conditional l = 64 * l.fuel + 50

abbrev pub decreases-expressions::binary : goal.decreases-expressions::binary
decreases-expressions::binary l = 64 * l.fuel + 15 + 3 * (10 - l.level)

abbrev pub decreases-expressions::links : goal.decreases-expressions::links
decreases-expressions::links l = 64 * l.fuel + 14 + 3 * (10 - l.level)

abbrev pub decreases-expressions::link : goal.decreases-expressions::link
decreases-expressions::link l = 64 * l.fuel + 13 + 3 * (10 - l.level)

abbrev pub decreases-expressions::unary : goal.decreases-expressions::unary
decreases-expressions::unary l = 64 * l.fuel + 14

abbrev pub decreases-expressions::signed : goal.decreases-expressions::signed
decreases-expressions::signed l = 64 * l.fuel + 13

abbrev pub decreases-expressions::cast : goal.decreases-expressions::cast
decreases-expressions::cast l = 64 * l.fuel + 13

abbrev pub decreases-expressions::postfix : goal.decreases-expressions::postfix
decreases-expressions::postfix l = 64 * l.fuel + 12

abbrev pub decreases-primaries::primary : goal.decreases-primaries::primary
decreases-primaries::primary l = 64 * l.fuel + 11

abbrev pub decreases-primaries::suffixes : goal.decreases-primaries::suffixes
decreases-primaries::suffixes l = 64 * l.fuel + 10

abbrev pub decreases-primaries::suffix : goal.decreases-primaries::suffix
decreases-primaries::suffix l = 64 * l.fuel + 9

abbrev pub decreases-primaries::member : goal.decreases-primaries::member
decreases-primaries::member l = 64 * l.fuel + 8

abbrev pub decreases-primaries::head : goal.decreases-primaries::head
decreases-primaries::head l = 64 * l.fuel + 8

abbrev pub decreases-primaries::super_member : goal.decreases-primaries::super_member
decreases-primaries::super_member l = 64 * l.fuel + 7

abbrev pub decreases-primaries::created : goal.decreases-primaries::created
decreases-primaries::created l = 64 * l.fuel + 7

abbrev pub decreases-primaries::array : goal.decreases-primaries::array
decreases-primaries::array l = 64 * l.fuel + 6

abbrev pub decreases-lists::arguments : goal.decreases-lists::arguments
decreases-lists::arguments l = 64 * l.fuel + 5

abbrev pub decreases-lists::list : goal.decreases-lists::list
decreases-lists::list l = 64 * l.fuel + 5

abbrev pub decreases-lists::sizes : goal.decreases-lists::sizes
decreases-lists::sizes l = 64 * l.fuel + 5

abbrev pub decreases-lists::expressions : goal.decreases-lists::expressions
decreases-lists::expressions l = 64 * l.fuel + 4

abbrev pub decreases-lists::elements : goal.decreases-lists::elements
decreases-lists::elements l = 64 * l.fuel + 4

abbrev pub decreases-nested::nested_expression : goal.decreases-nested::nested_expression
decreases-nested::nested_expression l = 64 * l.fuel

abbrev pub decreases-nested::nested_conditional : goal.decreases-nested::nested_conditional
decreases-nested::nested_conditional l = 64 * l.fuel

abbrev pub decreases-nested::nested_unary : goal.decreases-nested::nested_unary
decreases-nested::nested_unary l = 64 * l.fuel

abbrev pub decreases-nested::nested_initializer : goal.decreases-nested::nested_initializer
decreases-nested::nested_initializer l = 64 * l.fuel

abbrev pub invariant-lists::expressions-loop-i : goal.invariant-lists::expressions-loop-i
invariant-lists::expressions-loop-i l = exprs_onto l.items.items (exprs_of (below l.fuel).expr (l.count - l._i) l.rest) ≡ exprs_of (below l.fuel).expr l.count l.terminals

abbrev pub invariant-lists::elements-loop-i : goal.invariant-lists::elements-loop-i
invariant-lists::elements-loop-i l = inits_onto l.items.items (inits_of (below l.fuel).init (l.count - l._i) l.rest) ≡ inits_of (below l.fuel).init l.count l.terminals

abbrev pub invariant-lists::sizes-loop-i : goal.invariant-lists::sizes-loop-i
invariant-lists::sizes-loop-i l = sizes_onto l.items.items (sizes_of (below l.fuel).expr (l.room - l.i) l.rest) ≡ sizes_of (below l.fuel).expr l.room l.terminals

abbrev pub invariant-primaries::suffixes-loop-i : goal.invariant-primaries::suffixes-loop-i
invariant-primaries::suffixes-loop-i l = suffixes_of (below l.fuel) (l.count - l._i) l.outer (expr_tree l.inner) l.rest ≡ suffixes_of (below l.fuel) l.count l.fn.form (expr_tree l.fn.head) l.terminals

abbrev pub invariant-expressions::links-loop-i : goal.invariant-expressions::links-loop-i
invariant-expressions::links-loop-i l = record {
  in_levels : l.level < 10;
  goes : links_onto l.items.items (links_of (bin_of (below l.fuel) (tighter_than l.level)) (level_at l.level) (l.count - l._i) l.rest) ≡ links_of (bin_of (below l.fuel) (tighter_than l.level)) (level_at l.level) l.count l.terminals;
}

abbrev pub invariant-expressions::binary-loop-next : goal.invariant-expressions::binary-loop-next
invariant-expressions::binary-loop-next l = record {
  in_levels : l.held ≤ 10;
  from_level : l.level ≤ l.held;
  goes : bin_of (below l.fuel) (drop l.held levels) l.terminals ≡ Ok ((l.outer, expr_tree l.inner), l.rest);
}

abbrev pub decreases-expressions::binary-loop-next : goal.decreases-expressions::binary-loop-next
decreases-expressions::binary-loop-next l = l.held
