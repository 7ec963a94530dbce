use Rattle.std.proofs.Common.{map, sym, subst}
use Rattle.sg_base.specs.List.{IsDistinct}
use Rattle.sg_expr.specs.Tree.{expr_of}
use Rattle.sg_order.specs.Order.{precedes}
use Rattle.sg_query.specs.Found.{FoundTreeOf}
use Rattle.sg_query.specs.Shadow.{AreUnshadowed}
use Rattle.sg_query.proofs.Answering.{answer_many, answer_paths, all_start}
use Rattle.sg_query.proofs.plain.ans_plain.Goals as goal

pub laid_out-requires : goal.laid_out-requires
laid_out-requires g c =
    let k = rw c.in-Some.is at c.in_ok-arrived.ensures in
    all_start c.args.g.now (expr_of c.kind-kind.result.now.expr) (g.I.Instance.wants c.args.q.now.pred) c.args.q.now.start c.in-Some.all.items k.1

pub visible_of-requires : goal.visible_of-requires
visible_of-requires g c =
    let k = rw c.in-Some.is at c.in_ok-arrived.ensures in
    record { once = subst (λ (t : FoundTreeOf g.row.I-Datum.Denot). IsDistinct (map (λ f. f.path) t.found)) (sym c.in_ok-tree-in-Some.ensures) (k.1).once }

pub returns-in-None : goal.returns-in-None
returns-in-None g c =
    let k = rw c.in-None.is at c.in_ok-arrived.ensures in
    answer_many c.args.g.now g.I.Instance.wants g.I.Instance.same_datum c.args.t.now c.args.q.now c.kind-kind.result.now c.kind-kind.ensures.kind k

pub returns-in_ok-visible_of-in-Some : goal.returns-in_ok-visible_of-in-Some
returns-in_ok-visible_of-in-Some g c =
    let k = rw c.in-Some.is at c.in_ok-arrived.ensures in
    let h = c.in_ok-visible_of-in-Some.ensures in
    let paths = c.in_ok-visible_of-in-Some.field-0 in
    let same = g.I.Instance.same_datum in
    let order = precedes c.kind-kind.result.now.order in
    answer_paths c.args.g.now g.I.Instance.wants same c.args.t.now c.args.q.now c.kind-kind.result.now c.kind-kind.ensures.kind c.in-Some.all.items paths k.0 k.1 h.0
    (subst (λ (t : FoundTreeOf g.row.I-Datum.Denot). AreUnshadowed same order t.found paths) c.in_ok-tree-in-Some.ensures h.1)
