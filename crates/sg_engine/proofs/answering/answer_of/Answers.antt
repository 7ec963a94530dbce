use Rattle.std.proofs.Common.{List, map, sym, subst, arith}
use Rattle.sg_base.specs.List.{IsDistinct}
use Rattle.sg_order.specs.Order.{precedes}
use Rattle.sg_query.specs.declared.found.Found.{Found}
use Rattle.sg_query.specs.Shadow.{AreUnshadowed}
use Rattle.sg_engine.proofs.answering.answer_of.Goals as goal

pub visible_of-requires : goal.visible_of-requires
visible_of-requires g c = record {
  once = subst (λ (r : List (Found g.row.I-Datum.Denot)). IsDistinct (map (λ f. f.path) r)) (sym c.in_ok-all.ensures.1) c.requires.once;
}

pub returns : goal.returns
returns g c =
    let k = c.in_ok-visible_of.ensures in
    let shown = subst (λ (r : List (Found g.row.I-Datum.Denot)). AreUnshadowed g.I.Instance.same_datum (precedes c.args.order.now) r c.in_ok-visible_of.field-0) (c.in_ok-all.ensures.1) k.1 in
    (omega (arith, c.if-tree-gt-MOST_PATHS.false), k.0, shown)
