use Rattle.std.proofs.Common.{◌≡◌, map}
use Rattle.sg_state.specs.Opening.{row_hold_of}
use Rattle.jv_layout.specs.Skeleton.{below, file_hold}
use Rattle.std.specs.List.{flat_map}
use Rattle.jv_layout.proofs.tables.Layout.row_holds.Given as goal

abbrev pub invariant-loop-f : goal.invariant-loop-f
invariant-loop-f l = map row_hold_of l.holds.items ≡ flat_map (file_hold l.self) (below l.f)
