use Rattle.std.proofs.Common.{◌≤◌, length}
use Rattle.std.specs.List.{flat_map}
use Rattle.sg_expr.specs.Tree.{expr_of}
use Rattle.sg_query.specs.Walk.{Visits, into_row, labels_below}
use Rattle.sg_query.proofs.walk.Walk.visit_one_more.Given as goal

abbrev pub invariant-loop-number : goal.invariant-loop-number
invariant-loop-number g l = record {
  visited : Visits l.self.graph.now (expr_of l.self.expr.now) (g.I.Instance.wants l.self.pred.now) l.self.start l.steps (flat_map (into_row l.self.graph.now l.self.start l.steps) (labels_below l.number)) l.initial.seen l.seen;
  fits : length l.seen.going.items ≤ l.room;
}
