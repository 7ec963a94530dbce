use Rattle.std.proofs.Common.{sym, ◌∙◌}
use Rattle.sg_expr.specs.Tree.{expr_of}
use Rattle.sg_query.specs.Walk.{into_scope}
use Rattle.sg_query.proofs.Extending.{scope_fresh, scope_stale}
use Rattle.sg_query.proofs.Gathering.{Visits-none, Visits-same, rest_more}
use Rattle.sg_query.proofs.walk.Walk.visit_scope.Goals as goal

pub returns-then-not-is_fresh : goal.returns-then-not-is_fresh
returns-then-not-is_fresh g c =
    Visits-same (into_scope c.args.self.now.start c.args.steps.now c.args.step.label c.args.step.to) (scope_stale c.args.self.now.start c.args.steps.now c.args.step.label c.args.step.to (sym c.is_fresh.ensures ∙ c.if-not-is_fresh.true)) (Visits-none c.args.seen.now)

pub visit-requires : goal.visit-requires
visit-requires g c =
    rest_more (expr_of c.args.self.now.expr.now) (expr_of c.args.rest.now) (expr_of c.in_ok-rest.rest) c.args.steps.now c.args.step c.requires c.in_ok-rest.ensures

pub returns : goal.returns
returns g c =
    Visits-same (into_scope c.args.self.now.start c.args.steps.now c.args.step.label c.args.step.to)
    (scope_fresh c.args.self.now.start c.args.steps.now c.args.step.label c.args.step.to (sym c.is_fresh.ensures ∙ c.if-not-is_fresh.false)) c.in_ok-visit.ensures
