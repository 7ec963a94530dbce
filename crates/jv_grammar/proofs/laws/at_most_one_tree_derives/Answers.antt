use Rattle.jv_grammar.proofs.WholeFiles.{one_file, shaped_file}
use Rattle.jv_grammar.proofs.laws.at_most_one_tree_derives.Goals as goal

pub returns : goal.returns
returns c = record { one = one_file; shaped = shaped_file }
