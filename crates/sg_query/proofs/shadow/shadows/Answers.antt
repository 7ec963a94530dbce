use Rattle.std.proofs.Common.{◌≡◌, IsTrue, sym, ◌∙◌, subst}
use Rattle.std.proofs.lemmas.List.{get_or_default}
use Rattle.sg_base.specs.PathTree.{path_at}
use Rattle.sg_base.proofs.Finite.{map-Contains}
use Rattle.sg_order.specs.Order.{precedes}
use Rattle.sg_order.specs.Path.{IsPathBefore}
use Rattle.sg_query.specs.declared.found_at.FoundAt.{FoundAt}
use Rattle.sg_query.specs.Found.{found_in}
use Rattle.sg_query.proofs.shadow.shadows.Goals as goal

pub returns-then-same : goal.returns-then-same
returns-then-same g c = λ f at t.
    let all = c.args.all.now in
    let paths = c.args.paths.now.paths in
    let found = found_in c.args.paths.now in
    let other = c.index-all-j.result in
    let this : f ≡ c.index-all-k.result = at ∙ (get_or_default all c.args.k f c.index-all-k.result c.requires.second ∙ sym c.index-all-k.is) in (
      found other,
      map-Contains found all other (c.args.j, c.requires.first, sym c.index-all-j.is),
      subst (λ (x : FoundAt g.row.I-Datum.Denot). IsTrue (g.I.Instance.same_datum x.datum other.datum)) (sym this) (sym c.same.ensures ∙ c.if-same.true),
      subst (λ (x : FoundAt g.row.I-Datum.Denot). IsPathBefore (precedes c.args.order.now) (path_at paths other.place) (path_at paths x.place)) (sym this) (c.place_before.ensures.0 t),
    )
