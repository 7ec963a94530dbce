use Rattle.std.proofs.Common.{◌≡◌, ◌++◌, map}
use Rattle.jv_layout.specs.Skeleton.{below, member_datum}
use Rattle.jv_layout.proofs.tables.Layout.add_member_data.Given as goal

abbrev pub invariant-loop-m : goal.invariant-loop-m
invariant-loop-m l = l.given.items ≡ l.initial.given.items ++ map (member_datum l.self) (below l.m)
