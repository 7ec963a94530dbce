use Rattle.sg_unit.proofs.Waiters.{waiters_are_held_up, stuck_are_held_up, shown_holders_wait}
use Rattle.sg_unit.proofs.laws.waiters_are_held_up.Goals as goal

pub returns-clause-waiters : goal.returns-clause-waiters
returns-clause-waiters g c = waiters_are_held_up _ _ _ _

pub returns-clause-stuck : goal.returns-clause-stuck
returns-clause-stuck g c = stuck_are_held_up _ _ _ _

pub returns-clause-shown : goal.returns-clause-shown
returns-clause-shown g c = shown_holders_wait _ _ _ _
