use Rattle.jv_grammar.proofs.WholeFiles.{few_pairs_in_file, find_shallow, one_shallow}
use Rattle.jv_grammar.proofs.laws.shallow_files_derive_once.Goals as goal

pub returns : goal.returns
returns c = record { few = few_pairs_in_file; find = find_shallow; once = one_shallow }
