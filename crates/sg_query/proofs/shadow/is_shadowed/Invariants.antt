use Rattle.std.proofs.Common.{◌≡◌, take, IsTrue}
use Rattle.std.specs.List.{Contains}
use Rattle.sg_order.specs.Order.{precedes}
use Rattle.sg_order.specs.Path.{IsPathBefore}
use Rattle.sg_base.specs.PathTree.{path_at}
use Rattle.sg_query.specs.declared.found_at.FoundAt.{FoundAt}
use Rattle.sg_query.proofs.shadow.is_shadowed.Given as goal

abbrev pub invariant-loop-other : goal.invariant-loop-other
invariant-loop-other g l =
    (h : FoundAt g.row.I-Datum.Denot) → Contains (take l.other-index l.all) h → IsTrue (g.I.Instance.same_datum l.found.datum h.datum) → IsPathBefore (precedes l.order) (path_at l.paths.paths h.place) (path_at l.paths.paths l.found.place) → ⊥
