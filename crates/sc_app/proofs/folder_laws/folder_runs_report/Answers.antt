use Rattle.sc_app.proofs.EndedRuns.{ended_runs_report}
use Rattle.sc_app.proofs.HeaderRuns.{runs_are_stuck_by_headers, runs_leave_greatest}
use Rattle.sc_app.proofs.StuckRuns.{stuck_runs_report}
use Rattle.sc_app.proofs.folder_laws.folder_runs_report.Goals as goal

pub returns-clause-ended : goal.returns-clause-ended
returns-clause-ended c = ended_runs_report runs_leave_greatest runs_are_stuck_by_headers

pub returns-clause-stuck : goal.returns-clause-stuck
returns-clause-stuck c = stuck_runs_report
