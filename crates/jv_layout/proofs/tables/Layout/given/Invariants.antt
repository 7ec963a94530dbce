use Rattle.std.proofs.Common.{◌≡◌, map}
use Rattle.jv_layout.specs.Skeleton.{below, package_datum}
use Rattle.jv_layout.proofs.tables.Layout.given.Given as goal

abbrev pub invariant-loop-p : goal.invariant-loop-p
invariant-loop-p l = l.given.items ≡ map (package_datum l.self) (below l.p)
