use Rattle.sc_io.specs.SourceFile.{sources_of}
use Rattle.sc_runs.proofs.SmallSources.{small_within}
use Rattle.sc_runs.proofs.project_tests.report_by.Goals as goal

pub check_project-requires-clause-within : goal.check_project-requires-clause-within
check_project-requires-clause-within g c κs lives = small_within (sources_of c.in_ok-sources.sources.items) c.in_ok-sources.ensures
