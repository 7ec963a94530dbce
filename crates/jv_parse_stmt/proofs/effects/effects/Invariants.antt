use Rattle.std.proofs.Common.{◌≡◌, ◌-◌, length}
use Rattle.jv_grammar.specs.ExprReader.{below}
use Rattle.jv_grammar.specs.StmtReader.{effects_up_to, effects_by}
use Rattle.jv_parse_expr.proofs.ListTurns.{exprs_onto}
use Rattle.jv_parse_stmt.proofs.effects.effects.Given as goal

abbrev pub invariant-loop-i : goal.invariant-loop-i
invariant-loop-i l = exprs_onto l.items.items (effects_up_to (below l.fuel) (length l.terminals - l._i) l.rest) ≡ effects_by (below l.fuel) l.terminals
