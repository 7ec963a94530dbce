use Rattle.jv_parse.proofs.DeclNumbers.{numbered_file}
use Rattle.jv_parse.proofs.laws.identifiers_are_numbered.Goals as goal

pub returns : goal.returns
returns c = numbered_file
