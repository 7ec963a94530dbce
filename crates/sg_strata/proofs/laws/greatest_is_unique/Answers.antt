use Rattle.sg_strata.proofs.Greatest.{greatest_is_one}
use Rattle.sg_strata.proofs.laws.greatest_is_unique.Goals as goal

pub returns : goal.returns
returns g c = greatest_is_one _ _
