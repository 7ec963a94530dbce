use Rattle.std.proofs.Common.{◌++◌, refl, ap}
use Rattle.sg_base.specs.Path.{word_of}
use Rattle.sg_expr.specs.Tree.{expr_of}
use Rattle.sg_query.specs.Steps.{if_any}
use Rattle.sg_query.proofs.Gathering.{going_more, going_less, goes_behind, behind_goes}
use Rattle.sg_query.proofs.walk.Walk.visit.Goals as goal

pub returns-in_ok-push : goal.returns-in_ok-push
returns-in_ok-push g c =
    let goes = goes_behind (expr_of c.args.self.now.expr.now) (expr_of c.args.rest) (word_of (c.args.steps.now ++ if_any c.args.last)) c.requires (c.goes_on.ensures.0 c.if-goes_on.true) in
    going_more c.args.seen.now c.visit_end.new.seen (record { going = c.push.new.self; found = c.visit_end.new.seen.found }) (record { depth = c.len-depth.result; last = c.args.last; rest = c.args.rest }) c.len-depth.ensures c.requires goes c.in_ok-push.ensures.items (ap (λ v. v.items) c.in_ok-visit_end.ensures.going) refl c.in_ok-visit_end.ensures.found

pub returns-else-goes_on : goal.returns-else-goes_on
returns-else-goes_on g c =
    going_less c.args.seen.now c.visit_end.new.seen (c.args.steps.now ++ if_any c.args.last) (λ k. cc (c.goes_on.ensures.1 (behind_goes (expr_of c.args.self.now.expr.now) (expr_of c.args.rest) (word_of (c.args.steps.now ++ if_any c.args.last)) c.requires k), c.if-goes_on.false)) (ap (λ v. v.items) c.in_ok-visit_end.ensures.going) c.in_ok-visit_end.ensures.found
