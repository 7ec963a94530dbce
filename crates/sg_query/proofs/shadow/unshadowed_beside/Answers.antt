use Rattle.std.proofs.Common.{◌≡◌, ◌<◌, List, Bool, map, sym, ap, ◌∙◌, subst, length}
use Rattle.std.proofs.lemmas.List.{length-map}
use Rattle.sg_base.specs.List.{IsDistinct}
use Rattle.sg_order.specs.Order.{precedes}
use Rattle.sg_query.specs.declared.found.Found.{Found}
use Rattle.sg_query.specs.declared.found_at.FoundAt.{FoundAt}
use Rattle.sg_query.specs.Found.{found_in, AreThere}
use Rattle.sg_query.specs.Marks.{AreShadowedWhereMarked, LosesShadowed, unmarked}
use Rattle.sg_query.proofs.Losing.{where_length, where_loses, unmarked_once}
use Rattle.sg_query.proofs.Trees.{unmarked_each, unmarked_map}
use Rattle.sg_query.proofs.shadow.unshadowed_beside.Goals as goal

pub without_marked-requires : goal.without_marked-requires
without_marked-requires g c =
    let all = c.args.all.items in
    let found = found_in c.args.paths.now in
    let marks = c.in_ok-shadowed.shadowed.items in
    let same = g.I.Instance.same_datum in
    let order = precedes c.args.order.now in
    let marked : AreShadowedWhereMarked same order (map found all) (map found all) marks = subst (λ (t : List (FoundAt g.row.I-Datum.Denot)). AreShadowedWhereMarked same order (map found t) (map found t) marks) c.as_slice.ensures.value c.in_ok-shadowed.ensures in
    ap length c.as_slice-2.ensures.value ∙ (where_length same order (map found all) (map found all) marks marked ∙ length-map all found)

pub returns-clause-there : goal.returns-clause-there
returns-clause-there g c =
    let t = c.args.paths.now in
    let all = c.args.all.items in
    let marks = c.in_ok-shadowed.shadowed.items in
    let left : c.in_ok-without_marked.field-0.items ≡ unmarked all marks = c.in_ok-without_marked.ensures ∙ ap (λ (bs : List Bool). unmarked all bs) c.as_slice-2.ensures.value in
    subst (λ (fs : List (FoundAt g.row.I-Datum.Denot)). AreThere t fs) (sym left)
    (unmarked_each (λ (f : FoundAt g.row.I-Datum.Denot). f.place < length t.paths) all marks c.requires.there)

pub returns-clause-once : goal.returns-clause-once
returns-clause-once g c =
    let all = c.args.all.items in
    let found = found_in c.args.paths.now in
    let marks = c.in_ok-shadowed.shadowed.items in
    let left : map found c.in_ok-without_marked.field-0.items ≡ unmarked (map found all) marks = ap (map found) (c.in_ok-without_marked.ensures ∙ ap (λ (bs : List Bool). unmarked all bs) c.as_slice-2.ensures.value) ∙ unmarked_map found all marks in
    subst (λ (t : List (Found g.row.I-Datum.Denot)). IsDistinct (map (λ f. f.path) t)) (sym left) (unmarked_once (λ (f : Found g.row.I-Datum.Denot). f.path) (map found all) marks c.requires.once)

pub returns-clause-loses : goal.returns-clause-loses
returns-clause-loses g c =
    let all = c.args.all.items in
    let found = found_in c.args.paths.now in
    let marks = c.in_ok-shadowed.shadowed.items in
    let same = g.I.Instance.same_datum in
    let order = precedes c.args.order.now in
    let marked : AreShadowedWhereMarked same order (map found all) (map found all) marks = subst (λ (t : List (FoundAt g.row.I-Datum.Denot)). AreShadowedWhereMarked same order (map found t) (map found t) marks) c.as_slice.ensures.value c.in_ok-shadowed.ensures in
    let left : map found c.in_ok-without_marked.field-0.items ≡ unmarked (map found all) marks = ap (map found) (c.in_ok-without_marked.ensures ∙ ap (λ (bs : List Bool). unmarked all bs) c.as_slice-2.ensures.value) ∙ unmarked_map found all marks in
    subst (λ (t : List (Found g.row.I-Datum.Denot)). LosesShadowed same order (map found all) t) (sym left) (where_loses same order (map found all) marks marked)
