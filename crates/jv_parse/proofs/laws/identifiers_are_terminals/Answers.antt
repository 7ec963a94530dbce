use Rattle.jv_parse.proofs.DeclIdentifiers.{few_in_file}
use Rattle.jv_parse.proofs.laws.identifiers_are_terminals.Goals as goal

pub returns : goal.returns
returns c = few_in_file
