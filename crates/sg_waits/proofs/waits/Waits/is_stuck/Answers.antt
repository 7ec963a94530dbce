use Rattle.std.proofs.Common.{arith}
use Rattle.sg_waits.proofs.Tables.{stuck, stuck_none, stuck_some, above_none, some_above, none_of}
use Rattle.sg_waits.proofs.waits.Waits.is_stuck.Goals as goal

pub returns-then-self-eq0 : goal.returns-then-self-eq0
returns-then-self-eq0 c =
    rw (← c.self.view_is) (
      (λ h. stuck c.self.inside.units.items c.self.inside.running c.self.inside.waiting (c.self.invariant.0).count_running (c.self.invariant.0).count_waiting c.if-self-eq0.true (above_none c.self.inside.waiting h)),
      (λ h. some_above c.self.inside.waiting (stuck_some c.self.inside.units.items c.self.inside.running c.self.inside.waiting (c.self.invariant.0).count_running (c.self.invariant.0).count_waiting h)),
    )

pub returns-else-self-eq0 : goal.returns-else-self-eq0
returns-else-self-eq0 c =
    rw (← c.self.view_is) (
      (λ h. absurd (omega (arith, none_of c.self.inside.running h))),
      (λ h. absurd (stuck_none c.self.inside.units.items c.self.inside.running c.self.inside.waiting (c.self.invariant.0).count_running (c.self.invariant.0).count_waiting h (omega arith))),
    )
