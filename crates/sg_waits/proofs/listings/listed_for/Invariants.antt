use Rattle.std.proofs.Common.{ℕ, ◌↔◌, take}
use Rattle.std.specs.List.{Contains}
use Rattle.sg_state.specs.declared.need.Need.{Need}
use Rattle.sg_waits.proofs.listings.listed_for.Given as goal

abbrev pub invariant-loop-need : goal.invariant-loop-need
invariant-loop-need l = (u : ℕ) → (Contains l.found.keys u) ↔ ((n : Need) × Contains (take l.need-index l.gone) n × Contains l.listings.keys (record { need = n; unit = u }))
