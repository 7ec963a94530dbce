use Rattle.std.proofs.Common.{◌++◌}
use Rattle.sg_expr.specs.Tree.{expr_of}
use Rattle.sg_query.specs.Steps.{if_any}
use Rattle.sg_query.specs.Walk.{IsFound}
use Rattle.sg_query.proofs.Gathering.{GathersOn-one, GathersOn-skip}
use Rattle.sg_query.proofs.walk.Walk.visit_end.Goals as goal

pub returns-in_ok-push-clause-found : goal.returns-in_ok-push-clause-found
returns-in_ok-push-clause-found g c =
    let here = rw c.in-Some.is at c.in_ok-found.ensures in
    rw c.in_ok-push.ensures.items (GathersOn-one (IsFound c.args.self.now.graph.now (expr_of c.args.self.now.expr.now) (g.I.Instance.wants c.args.self.now.pred.now) c.args.self.now.start) (c.args.steps.now ++ if_any c.args.last.now) c.in-Some.found c.args.seen.now.found.items here)

pub returns-in_default-clause-found : goal.returns-in_default-clause-found
returns-in_default-clause-found g c =
    let none = rw c.in_default.is at c.in_ok-found.ensures in
    GathersOn-skip (IsFound c.args.self.now.graph.now (expr_of c.args.self.now.expr.now) (g.I.Instance.wants c.args.self.now.pred.now) c.args.self.now.start) (c.args.steps.now ++ if_any c.args.last.now) c.args.seen.now.found.items (λ f r. none f.datum r.1)
