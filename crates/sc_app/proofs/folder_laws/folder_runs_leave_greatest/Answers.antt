use Rattle.sc_app.proofs.HeaderRuns.{runs_are_stuck_by_headers, runs_leave_greatest}
use Rattle.sc_app.proofs.folder_laws.folder_runs_leave_greatest.Goals as goal

pub returns-clause-greatest : goal.returns-clause-greatest
returns-clause-greatest c = runs_leave_greatest

pub returns-clause-stuck : goal.returns-clause-stuck
returns-clause-stuck c = runs_are_stuck_by_headers
