use Rattle.std.proofs.Common.{◌≡◌, ◌++◌, map}
use Rattle.sg_state.specs.Opening.{row_hold_of}
use Rattle.jv_layout.specs.Skeleton.{below, type_hold}
use Rattle.jv_layout.proofs.tables.Layout.add_type_holds.Given as goal

abbrev pub invariant-loop-t : goal.invariant-loop-t
invariant-loop-t l = map row_hold_of l.holds.items ≡ map row_hold_of l.initial.holds.items ++ map (type_hold l.self) (below l.t)
