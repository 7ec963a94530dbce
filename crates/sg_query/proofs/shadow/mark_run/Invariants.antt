use Rattle.std.proofs.Common.{◌≡◌, ◌++◌, List, Bool, map, take}
use Rattle.sg_order.specs.Order.{precedes}
use Rattle.sg_query.specs.Found.{found_in}
use Rattle.sg_query.specs.Marks.{AreMarked}
use Rattle.sg_query.proofs.shadow.mark_run.Given as goal

abbrev pub invariant-loop-found : goal.invariant-loop-found
invariant-loop-found g l =
    (more : List Bool) × (l.marks.items ≡ l.initial.marks.items ++ more) × AreMarked g.I.Instance.same_datum (precedes l.order) (map (found_in l.paths) l.run) (map (found_in l.paths) (take l.found-index l.run)) more
