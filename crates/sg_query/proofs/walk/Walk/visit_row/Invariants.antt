use Rattle.std.proofs.Common.{◌≤◌, length, take}
use Rattle.std.specs.List.{flat_map}
use Rattle.sg_expr.specs.Tree.{expr_of}
use Rattle.sg_query.specs.Walk.{Visits, into_scope}
use Rattle.sg_query.proofs.walk.Walk.visit_row.Given as goal

abbrev pub invariant-loop-to : goal.invariant-loop-to
invariant-loop-to g l = record {
  visited : Visits l.self.graph.now (expr_of l.self.expr.now) (g.I.Instance.wants l.self.pred.now) l.self.start l.steps (flat_map (into_scope l.self.start l.steps l.label) (take l.to-index l.to-items)) l.initial.seen l.seen;
  fits : length l.seen.going.items ≤ l.room;
}
