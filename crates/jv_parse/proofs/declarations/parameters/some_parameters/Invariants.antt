use Rattle.std.proofs.Common.{◌≡◌, ◌-◌}
use Rattle.jv_tree.specs.DeclTree.{param_tree}
use Rattle.jv_grammar.specs.DeclReader.{some_params_of}
use Rattle.jv_parse.proofs.CommaTurns.{onto}
use Rattle.jv_parse.proofs.declarations.parameters.some_parameters.Given as goal

abbrev pub invariant-loop-i : goal.invariant-loop-i
invariant-loop-i l = onto param_tree l.items.items (some_params_of (l.count - l._i) l.rest) ≡ some_params_of l.count l.terminals
