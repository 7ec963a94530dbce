use Rattle.sc_app.proofs.HeaderRuns.{files_ask_for_own, runs_are_orderly}
use Rattle.sc_app.proofs.folder_laws.folder_runs_are_orderly.Goals as goal

pub returns-clause-orderly : goal.returns-clause-orderly
returns-clause-orderly c = runs_are_orderly

pub returns-clause-files : goal.returns-clause-files
returns-clause-files c = files_ask_for_own
