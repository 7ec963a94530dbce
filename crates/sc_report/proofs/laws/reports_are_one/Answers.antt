use Rattle.sc_report.proofs.Reports.{one_report}
use Rattle.sc_report.proofs.laws.reports_are_one.Goals as goal

pub returns : goal.returns
returns c = one_report
