use Rattle.sc_io.specs.SourceFile.{sources_of}
use Rattle.sc_app.proofs.HandingBack.{shown_beside}
use Rattle.sc_app.proofs.Shown.{checked_report}
use Rattle.sc_app.proofs.check.folder_report.Goals as goal

pub returns-in-Ok-clause-report : goal.returns-in-Ok-clause-report
returns-in-Ok-clause-report g c =
    checked_report (sources_of c.args.files.items) c.in-Ok.outcome c.in-Ok.ensures.outcome c.args.command c.outcome_report.result c.outcome_report.ensures.bytes c.outcome_report.ensures.status

pub returns-in-Ok-clause-outcome : goal.returns-in-Ok-clause-outcome
returns-in-Ok-clause-outcome g c =
    shown_beside c.args.command (sources_of c.args.files.items) c.in-Ok.outcome c.in-Ok.ensures.outcome c.outcome_report.result c.outcome_report.ensures.bytes c.outcome_report.ensures.status c.outcome_report.ensures.outcome
