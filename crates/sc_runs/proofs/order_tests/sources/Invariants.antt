use Rattle.sc_io.specs.SourceFile.{sources_of}
use Rattle.sc_runs.specs.Small.{AreSmall}
use Rattle.sc_runs.proofs.order_tests.sources.Given as goal

abbrev pub invariant-loop-file : goal.invariant-loop-file
invariant-loop-file l = AreSmall (sources_of l.all.items)
