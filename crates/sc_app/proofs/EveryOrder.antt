-- Whatever the order of their steps, the checkers of a folder come to its report.
use Rattle.std.proofs.Common.{ℕ, List, length, ◌↔◌, inl, inr}
use Rattle.std.specs.List.{Contains}
use Rattle.jv_diag.specs.Plain.{DiagOf}
use Rattle.jv_unit.specs.Folder.{FolderOf, IsFolderOf}
use Rattle.sc_app.specs.EveryOrder.{EveryOrderReportsTheSame, Leads, RunsLeadToReports}
use Rattle.sc_app.specs.FolderLaw.{EndedRunsReport, FolderRunsAreStuckByHeaders, FolderRunsLeaveGreatest, last_graph}
use Rattle.sc_app.specs.FolderReport.{CircularLinesAreOne, FoldersHaveOneReport, IsLaidOut, Reports, checked}
use Rattle.sc_app.specs.FolderRun.{JavaCore, IsFolderRun, ruled}
use Rattle.sc_app.proofs.CircularLines.{lines_report}

module _ (greatest : FolderRunsLeaveGreatest) (stuck : FolderRunsAreStuckByHeaders) (ended : EndedRunsReport) (lines : CircularLinesAreOne) where
  pub runs_lead_to_reports : RunsLeadToReports
  runs_lead_to_reports w c ds folder ran (inl (over, all)) =
      let report = ended w c folder ran over in
      checked (last_graph c) report.0 (λ d. ((λ h. (report.1 d).0 ((all d).1 h)), (λ h. (all d).0 ((report.1 d).1 h))))
  runs_lead_to_reports w c ds folder ran (inr (over, each)) =
      let left = greatest w c folder ran in
      lines_report w c left.0 left.1 left.2 lines ds each ((stuck w c folder ran).0 over)

  pub every_order_reports_the_same : FoldersHaveOneReport → EveryOrderReportsTheSame
  every_order_reports_the_same one w c other ds es folder ran rerun leads leads_too =
      let laid : IsLaidOut (ruled w) = record { layout = folder.layout; linked = folder.linked; few = folder.few; numbered = folder.numbered } in
      one (ruled w) ds es laid (runs_lead_to_reports w c ds folder ran leads) (runs_lead_to_reports w other es folder rerun leads_too)
