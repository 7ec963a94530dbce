-- The steps by which a method is compared with what it is declared over.
use Rattle.sg_reading.proofs.Lists.{each_more, each_err, each_end, each_reads}
use Rattle.sg_reading.proofs.Steps.{reading_steps}
use Rattle.jv_names.proofs.Ending.{scope_put}

pub ruleset put_steps = (scope_put)

pub ruleset above_steps = (reading_steps, each_more, each_err, each_end, each_reads)
