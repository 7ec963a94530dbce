use Rattle.std.proofs.Common.{◌≡◌, ◌++◌}
use Rattle.jv_layout.specs.Titles.{outward, package_names}
use Rattle.jv_layout.proofs.tables.Layout.add_package_names.Given as goal

abbrev pub invariant-loop-left : goal.invariant-loop-left
invariant-loop-left l = package_names l.self l.left l.at ++ outward l.ids.items ≡ package_names l.self l.initial.left l.initial.at ++ outward l.initial.ids.items

abbrev pub decreases-loop-left : goal.decreases-loop-left
decreases-loop-left l = l.left
