use Rattle.sc_gen.proofs.Folders.{are_folders}
use Rattle.sc_gen.proofs.laws.projects_are_folders.Goals as goal

pub returns : goal.returns
returns c = are_folders
