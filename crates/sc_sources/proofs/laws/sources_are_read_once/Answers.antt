use Rattle.sc_sources.proofs.Once.{sources_once}
use Rattle.sc_sources.proofs.PreludeTrees.{prelude_read}
use Rattle.sc_sources.proofs.laws.sources_are_read_once.Goals as goal

pub returns : goal.returns
returns c = record { once = sources_once; prelude = prelude_read }
