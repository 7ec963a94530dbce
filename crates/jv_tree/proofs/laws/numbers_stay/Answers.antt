use Rattle.jv_tree.proofs.Numbers.{unit_stays}
use Rattle.jv_tree.proofs.laws.numbers_stay.Goals as goal

pub returns : goal.returns
returns c = λ m n u more. unit_stays m n more u
