use Rattle.std.proofs.Common.{◌≡◌, ◌-◌}
use Rattle.jv_tree.specs.StmtTree.{var_tree}
use Rattle.jv_grammar.specs.DeclReader.{constants_of}
use Rattle.jv_parse.proofs.CommaTurns.{onto}
use Rattle.jv_parse.proofs.declarations.fields.constants.Given as goal

abbrev pub invariant-loop-i : goal.invariant-loop-i
invariant-loop-i l = onto var_tree l.items.items (constants_of l.fuel (l.count - l._i) l.rest) ≡ constants_of l.fuel l.count l.terminals
