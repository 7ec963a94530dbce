use Rattle.std.proofs.Common.{◌≡◌, ◌-◌, length}
use Rattle.jv_grammar.specs.ExprReader.{below}
use Rattle.jv_grammar.specs.StmtReader.{vars_up_to, vars_by}
use Rattle.jv_parse_stmt.proofs.VariableTurns.{vars_onto}
use Rattle.jv_parse_stmt.proofs.variables.variables.Given as goal

abbrev pub invariant-loop-i : goal.invariant-loop-i
invariant-loop-i l = vars_onto l.items.items (vars_up_to (below l.fuel) (length l.terminals - l._i) l.rest) ≡ vars_by (below l.fuel) l.terminals
