use Rattle.sc_app.proofs.HeaderRuns.{runs_ask_signatures_last}
use Rattle.sc_app.proofs.folder_laws.folder_runs_ask_signatures_last.Goals as goal

pub returns : goal.returns
returns c = runs_ask_signatures_last
