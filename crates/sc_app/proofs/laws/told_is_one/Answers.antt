use Rattle.sc_app.proofs.OneTold as one
use Rattle.sc_app.proofs.laws.told_is_one.Goals as goal

pub returns : goal.returns
returns c = one.told_is_one c.sources_are_read_once.ensures.once c.folders_have_one_report.ensures.folders
