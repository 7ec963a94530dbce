use Rattle.std.proofs.Common.{◌≡◌, ◌++◌}
use Rattle.jv_names.specs.Bodies.{outward, header_bodies}
use Rattle.jv_names.proofs.spot.add_enclosing.Given as goal

abbrev pub invariant-loop-left : goal.invariant-loop-left
invariant-loop-left l = l.fn.inside.items ++ header_bodies l.l l.fn.ty ≡ l.inside.items ++ outward l.l l.left l.at

abbrev pub decreases-loop-left : goal.decreases-loop-left
decreases-loop-left l = l.left
