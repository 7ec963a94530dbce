use Rattle.sc_app.proofs.OneReport.{circular_lines_are_one, one_report}
use Rattle.sc_app.proofs.folder_laws.folders_have_one_report.Goals as goal

pub returns-clause-folders : goal.returns-clause-folders
returns-clause-folders c = one_report

pub returns-clause-types : goal.returns-clause-types
returns-clause-types c = circular_lines_are_one
