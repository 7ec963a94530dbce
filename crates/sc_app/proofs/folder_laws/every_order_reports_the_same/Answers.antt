use Rattle.sc_app.proofs.EveryOrder.{every_order_reports_the_same, runs_lead_to_reports}
use Rattle.sc_app.proofs.folder_laws.every_order_reports_the_same.Goals as goal

pub returns-clause-reports : goal.returns-clause-reports
returns-clause-reports c = runs_lead_to_reports c.folder_runs_leave_greatest.ensures.greatest c.folder_runs_leave_greatest.ensures.stuck c.folder_runs_report.ensures.ended c.folders_have_one_report.ensures.types

pub returns-clause-same : goal.returns-clause-same
returns-clause-same c =
    every_order_reports_the_same c.folder_runs_leave_greatest.ensures.greatest c.folder_runs_leave_greatest.ensures.stuck c.folder_runs_report.ensures.ended c.folders_have_one_report.ensures.types
    c.folders_have_one_report.ensures.folders
