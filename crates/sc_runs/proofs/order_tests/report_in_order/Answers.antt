use Rattle.sc_io.specs.SourceFile.{sources_of}
use Rattle.sc_runs.proofs.SmallSources.{small_within}
use Rattle.sc_runs.proofs.order_tests.report_in_order.Goals as goal

pub check_in_order-requires : goal.check_in_order-requires
check_in_order-requires c = record { within = small_within (sources_of c.in_ok-sources.sources.items) c.in_ok-sources.ensures }
