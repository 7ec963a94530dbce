use Rattle.std.proofs.Common.{◌≡◌, ◌-◌}
use Rattle.jv_grammar.specs.DeclReader.{types_of}
use Rattle.jv_parse.proofs.FileTurns.{types_onto}
use Rattle.jv_parse.proofs.declarations.files.types.Given as goal

abbrev pub invariant-loop-i : goal.invariant-loop-i
invariant-loop-i l = types_onto l.items.items (types_of l.fuel (l.count - l._i) l.rest) ≡ types_of l.fuel l.count l.terminals
