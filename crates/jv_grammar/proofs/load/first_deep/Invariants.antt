use Rattle.std.proofs.Common.{◌≡◌, ◌≤◌, drop}
use Rattle.jv_grammar.specs.Load.{loads_from, loads_of}
use Rattle.jv_grammar.specs.Nesting.{nesting_of, IsSound}
use Rattle.jv_grammar.proofs.Deep.{find_deep}
use Rattle.jv_grammar.proofs.load.first_deep.Given as goal

abbrev pub invariant-loop-i : goal.invariant-loop-i
invariant-loop-i l = record {
  low : l.nesting.load ≤ 200;
  sound : IsSound (nesting_of l.nesting);
  goes : find_deep l.i (loads_from l.before (nesting_of l.nesting) (drop l.i l.terminals)) ≡ find_deep 0 (loads_of l.terminals);
}
