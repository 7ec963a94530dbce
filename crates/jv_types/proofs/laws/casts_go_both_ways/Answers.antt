use Rattle.jv_types.proofs.laws.casts_go_both_ways.Goals as goal
use Rattle.jv_types.proofs.BothWays.{castable_comm}

pub returns : goal.returns
returns c = castable_comm
