use Rattle.std.proofs.Common.{◌≡◌, ◌-◌, length}
use Rattle.jv_grammar.specs.ExprReader.{below}
use Rattle.jv_grammar.specs.StmtReader.{effects_up_to}
use Rattle.jv_parse_stmt.specs.View.{effect_stmts_by}
use Rattle.jv_parse_stmt.proofs.VariableTurns.{stmts_onto, as_stmts}
use Rattle.jv_parse_stmt.proofs.effects.effect_statements.Given as goal

abbrev pub invariant-loop-i : goal.invariant-loop-i
invariant-loop-i l = stmts_onto l.items.items (as_stmts (effects_up_to (below l.fuel) (length l.terminals - l._i) l.rest)) ≡ effect_stmts_by (below l.fuel) l.terminals
