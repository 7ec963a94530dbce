use Rattle.std.proofs.Common.{List, subst, sym}
use Rattle.sc_io.specs.SourceFile.{sources_of}
use Rattle.sc_io.specs.declared.source_file.SourceFile.{SourceFile}
use Rattle.sc_runs.proofs.SmallSources.{no_sources}
use Rattle.sc_runs.specs.Small.{AreSmall}
use Rattle.sc_runs.proofs.order_tests.sources.Goals as goal

pub loop-file-init : goal.loop-file-init
loop-file-init c = subst (λ (l : List SourceFile). AreSmall (sources_of l)) (sym c.new-all.ensures.items) no_sources
