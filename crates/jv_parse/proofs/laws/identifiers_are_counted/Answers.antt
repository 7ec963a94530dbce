use Rattle.jv_parse.proofs.DeclIdentifiers.{counted_file}
use Rattle.jv_parse.proofs.laws.identifiers_are_counted.Goals as goal

pub returns : goal.returns
returns c = counted_file
