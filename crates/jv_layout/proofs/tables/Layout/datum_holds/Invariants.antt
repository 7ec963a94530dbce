use Rattle.std.proofs.Common.{◌≡◌, map}
use Rattle.sg_state.specs.Opening.{held_datum_of}
use Rattle.jv_layout.specs.Skeleton.{below, signature_hold}
use Rattle.jv_layout.proofs.tables.Layout.datum_holds.Given as goal

abbrev pub invariant-loop-m : goal.invariant-loop-m
invariant-loop-m l = map held_datum_of l.holds.items ≡ map (signature_hold l.self) (below l.m)
