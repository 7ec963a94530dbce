-- The steps by which pairs of methods are compared.
use Rattle.sg_reading.proofs.Steps.{reading_steps}

pub ruleset pair_steps = (reading_steps)
