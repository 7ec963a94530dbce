use Rattle.std.proofs.Common.{[], map, take}
use Rattle.std.specs.List.{Contains}
use Rattle.std.specs.Ordering.{nat_cmp}
use Rattle.sg_base.specs.List.{IsRising}
use Rattle.sg_state.specs.Held.{DatumHold}
use Rattle.sg_state.specs.Opening.{held_datum_of}
use Rattle.sg_state.specs.View.{Gives, IsListed, KeepsLists}
use Rattle.sg_state.proofs.opened.add_datum_holds.Given as goal

abbrev pub invariant-loop-unit : goal.invariant-loop-unit
invariant-loop-unit g l =
    Gives l.initial.places.entries l.places.entries [] [] [] (map held_datum_of (take l.unit-index l.list))
    × ((k : DatumHold) → Contains (map held_datum_of (take l.unit-index l.list)) k → IsListed l.units.entries k.unit k.scope)
    × KeepsLists l.initial.units.entries l.units.entries
    × IsRising nat_cmp (map (λ p. p.0) l.units.entries)
