use Rattle.std.proofs.Common.{◌≡◌, ◌++◌, map}
use Rattle.jv_layout.specs.Skeleton.{below, type_datum}
use Rattle.jv_layout.proofs.tables.Layout.add_type_data.Given as goal

abbrev pub invariant-loop-t : goal.invariant-loop-t
invariant-loop-t l = l.given.items ≡ l.initial.given.items ++ map (type_datum l.self) (below l.t)
