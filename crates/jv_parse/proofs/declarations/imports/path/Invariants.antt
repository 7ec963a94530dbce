use Rattle.std.proofs.Common.{◌≡◌, ◌-◌}
use Rattle.jv_grammar.specs.DeclReader.{path_of}
use Rattle.jv_parse.proofs.ImportTurns.{path_onto}
use Rattle.jv_parse.proofs.declarations.imports.path.Given as goal

abbrev pub invariant-loop-i : goal.invariant-loop-i
invariant-loop-i l = path_onto l.is_static l.ids.items (path_of l.is_static (l.count - l._i) l.rest) ≡ path_of l.is_static l.count l.terminals
