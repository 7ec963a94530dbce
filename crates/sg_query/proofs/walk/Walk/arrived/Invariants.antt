use Rattle.sg_base.specs.Graph.{IsGraph}
use Rattle.sg_expr.specs.Tree.{expr_of}
use Rattle.sg_query.proofs.Standing.{Stands}
use Rattle.sg_query.proofs.walk.Walk.arrived.Given as goal

abbrev pub invariant-loop-going : goal.invariant-loop-going
invariant-loop-going g l = record {
  sound : IsGraph l.self.graph.now;
  stands : Stands l.self.graph.now sound (expr_of l.self.expr.now) l.self.start (g.I.Instance.wants l.self.pred.now) l.steps l.room l.seen.going.items l.seen.found.items;
}

abbrev pub decreases-loop-going : goal.decreases-loop-going
decreases-loop-going g l = l.room
