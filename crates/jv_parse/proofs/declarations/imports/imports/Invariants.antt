use Rattle.std.proofs.Common.{◌≡◌, ◌-◌}
use Rattle.jv_tree.specs.DeclTree.{import_tree}
use Rattle.jv_grammar.specs.DeclReader.{imports_of}
use Rattle.jv_parse.proofs.CommaTurns.{onto}
use Rattle.jv_parse.proofs.declarations.imports.imports.Given as goal

abbrev pub invariant-loop-i : goal.invariant-loop-i
invariant-loop-i l = onto import_tree l.items.items (imports_of (l.count - l._i) l.rest) ≡ imports_of l.count l.terminals
