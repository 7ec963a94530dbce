use Rattle.jv_grammar.specs.Nesting.{nesting_of, IsSound}
use Rattle.jv_grammar.proofs.tests.loads.Given as goal

abbrev pub invariant-loop-i : goal.invariant-loop-i
invariant-loop-i l = record { sound : IsSound (nesting_of l.nesting) }
