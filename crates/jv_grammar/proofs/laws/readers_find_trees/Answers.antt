use Rattle.jv_grammar.proofs.WholeFiles.{found_file, find_file, refused_file}
use Rattle.jv_grammar.proofs.laws.readers_find_trees.Goals as goal

pub returns : goal.returns
returns c = record { derive = found_file; find = find_file; none = refused_file }
