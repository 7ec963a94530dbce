use Rattle.std.proofs.Common.{map, take}
use Rattle.sg_order.specs.Order.{precedes}
use Rattle.sg_query.specs.Found.{found_in}
use Rattle.sg_query.specs.Marks.{AreShadowedWhereMarked}
use Rattle.sg_query.proofs.shadow.marks_beside.Given as goal

abbrev pub invariant-loop-k : goal.invariant-loop-k
invariant-loop-k g l =
    AreShadowedWhereMarked g.I.Instance.same_datum (precedes l.order) (map (found_in l.paths) l.all) (map (found_in l.paths) (take l.k l.all)) l.marks.items
