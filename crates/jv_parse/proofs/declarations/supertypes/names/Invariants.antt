use Rattle.std.proofs.Common.{◌≡◌, ◌-◌}
use Rattle.jv_tree.specs.TypeTree.{ids_of}
use Rattle.jv_grammar.specs.DeclReader.{names_of}
use Rattle.jv_parse.proofs.CommaTurns.{onto}
use Rattle.jv_parse.proofs.declarations.supertypes.names.Given as goal

abbrev pub invariant-loop-i : goal.invariant-loop-i
invariant-loop-i l = onto ids_of l.items.items (names_of (l.count - l._i) l.rest) ≡ names_of l.count l.terminals
