use Rattle.std.proofs.Common.{◌≡◌, length}
use Rattle.jv_grammar.specs.ExprReader.{run_of}
use Rattle.jv_parse_expr.specs.View.{headed}
use Rattle.jv_parse_expr.proofs.NameTurns.{ids_onto, run_on}
use Rattle.jv_parse_expr.proofs.heads.longest_name.Given as goal

abbrev pub invariant-loop-next : goal.invariant-loop-next
invariant-loop-next l = ids_onto l.ids.items (run_on (run_of l.rest)) ≡ headed l.fn.first (run_of l.terminals)

abbrev pub decreases-loop-next : goal.decreases-loop-next
decreases-loop-next l = length l.rest
