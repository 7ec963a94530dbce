use Rattle.std.proofs.Common.{◌≡◌, length}
use Rattle.jv_grammar.specs.TypeReader.{name_of}
use Rattle.jv_parse_expr.proofs.NameTurns.{dots, ids_onto}
use Rattle.jv_parse_expr.proofs.names.name.Given as goal

abbrev pub invariant-loop-dotted : goal.invariant-loop-dotted
invariant-loop-dotted l = ids_onto l.ids.items (dots l.rest) ≡ name_of l.terminals

abbrev pub decreases-loop-dotted : goal.decreases-loop-dotted
decreases-loop-dotted l = length l.rest
