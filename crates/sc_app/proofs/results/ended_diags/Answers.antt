use Rattle.jv_unit.specs.Kept.{folder_of}
use Rattle.sc_app.proofs.Checked.{ended_found, ended_report}
use Rattle.sc_app.proofs.results.ended_diags.Goals as goal

pub returns-clause-reports : goal.returns-clause-reports
returns-clause-reports c = ended_report (folder_of c.args.folder.now) c.args.core.now (c.folder_runs_report.ensures.ended (folder_of c.args.folder.now) c.args.core.now c.requires.whole.folder c.requires.run c.requires.ended) c.joined.result c.joined.ensures

pub returns-clause-found : goal.returns-clause-found
returns-clause-found c =
    ended_found (folder_of c.args.folder.now) c.args.core.now (c.folder_runs_report.ensures.ended (folder_of c.args.folder.now) c.args.core.now c.requires.whole.folder c.requires.run c.requires.ended) c.requires.ended c.joined.result c.joined.ensures
