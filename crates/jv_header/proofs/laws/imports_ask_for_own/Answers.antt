use Rattle.jv_header.proofs.ImportQueries.{imports_ask_for_own}
use Rattle.jv_header.proofs.laws.imports_ask_for_own.Goals as goal

pub returns : goal.returns
returns c = imports_ask_for_own
