-- The steps by which the call of the superclass's constructor is checked.
use Rattle.sg_reading.proofs.Steps.{reading_steps}

pub ruleset ctor_steps = (reading_steps)
