-- The datum of a scope of a held graph.
use Rattle.std.specs.Prelude.{ℕ, Bool, false, cond, ◌==◌}
use Rattle.sg_state.specs.declared.slot.Slot.{Slot}
use Rattle.sg_state.specs.declared.slot.Slot.TheVariants.{Given, Waits, Empty}

-- whether the datum is unset, with this holder
abbrev pub waits_for : {D : Type 0} → Slot D → ℕ → Bool
waits_for (Given d) unit = false
waits_for (Waits u) unit = u == unit
waits_for Empty unit = false

-- the datum once the unit has given it up, if it held it
abbrev pub without_holder : {D : Type 0} → ℕ → Slot D → Slot D
without_holder unit x = cond (waits_for x unit) Empty x
