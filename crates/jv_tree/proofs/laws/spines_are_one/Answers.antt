use Rattle.jv_tree.proofs.Spines.{one_spine}
use Rattle.jv_tree.proofs.laws.spines_are_one.Goals as goal

pub returns : goal.returns
returns c = one_spine
