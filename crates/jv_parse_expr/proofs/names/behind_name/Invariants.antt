use Rattle.std.proofs.Common.{◌≡◌, length}
use Rattle.jv_grammar.specs.TypeReader.{name_of}
use Rattle.jv_parse_expr.specs.View.{past}
use Rattle.jv_parse_expr.proofs.NameTurns.{dots}
use Rattle.jv_parse_expr.proofs.names.behind_name.Given as goal

abbrev pub invariant-loop-dotted : goal.invariant-loop-dotted
invariant-loop-dotted l = past (dots l.rest) ≡ past (name_of l.terminals)

abbrev pub decreases-loop-dotted : goal.decreases-loop-dotted
decreases-loop-dotted l = length l.rest
