use Rattle.std.proofs.Common.{◌≡◌, ◌+◌, [], ◌∷◌, ◌++◌, map, take, List, sym, ◌∙◌, ap, subst}
use Rattle.std.proofs.lemmas.List.{map-append, take_more}
use Rattle.sg_order.specs.Order.{precedes}
use Rattle.sg_query.specs.declared.found.Found.{Found}
use Rattle.sg_query.specs.declared.found_at.FoundAt.{FoundAt}
use Rattle.sg_query.specs.Found.{found_in}
use Rattle.sg_query.specs.Marks.{AreShadowedWhereMarked}
use Rattle.sg_query.proofs.Losing.{where_append, some_at}
use Rattle.sg_query.proofs.shadow.marks_beside.Goals as goal

pub loop-k-preserved : goal.loop-k-preserved
loop-k-preserved g c =
    let same = g.I.Instance.same_datum in
    let order = precedes c.args.order.now in
    let found = found_in c.args.paths.now in
    let all = c.args.all.now in
    let k = c.loop-k.k in
    let here = some_at all k c.loop-k-test.true in
    let mark = c.is_shadowed_beside-shadowed.result in
    let longer : map found (take (k + 1) all) ≡ map found (take k all) ++ found here.0 ∷ [] =
    ap (map found) (take_more all k here.0 c.loop-k-test.true ∙ ap (λ (x : FoundAt g.row.I-Datum.Denot). take k all ++ x ∷ []) (sym here.1))
    ∙ map-append found (take k all) (here.0 ∷ []) in
    rw c.in_ok-push.ensures.items (subst (λ (fs : List (Found g.row.I-Datum.Denot)). AreShadowedWhereMarked same order (map found all) fs (c.loop-k.marks.items ++ mark ∷ [])) (sym longer)
    (where_append same order (map found all) (map found (take k all)) (found here.0 ∷ []) c.loop-k.marks.items (mark ∷ []) c.loop-k.invariant (c.is_shadowed_beside-shadowed.ensures here.0 here.1, tt)))
