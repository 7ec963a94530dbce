use Rattle.std.proofs.Common.{◌≡◌, ◌<◌, List, Bool, map, sym, ap, ◌∙◌, subst, length, arith}
use Rattle.std.proofs.lemmas.List.{length-map}
use Rattle.std.proofs.lemmas.List.Sorted.{IsPermutation-map}
use Rattle.sg_base.specs.List.{IsDistinct}
use Rattle.sg_order.specs.Order.{precedes}
use Rattle.sg_query.specs.declared.found.Found.{Found}
use Rattle.sg_query.specs.declared.found_at.FoundAt.{FoundAt}
use Rattle.sg_query.specs.Found.{found_in, AreThere}
use Rattle.sg_query.specs.Marks.{AreMarked, unmarked}
use Rattle.sg_query.specs.Walk.{Gathers}
use Rattle.sg_query.proofs.Losing.{one_unshadowed}
use Rattle.sg_query.proofs.Marking.{marked_length, marked_gathers}
use Rattle.sg_query.proofs.Shadowing.{IsShown, shown_once, shown_all, unshadowed_moved}
use Rattle.sg_query.proofs.Sorting.{distinct_sorted}
use Rattle.sg_query.proofs.Trees.{alike_moved, there_moved, unmarked_each, unmarked_map}
use Rattle.sg_query.proofs.shadow.unshadowed_each.Goals as goal

pub returns-then-len-lt2-clause-unshadowed : goal.returns-then-len-lt2-clause-unshadowed
returns-then-len-lt2-clause-unshadowed g c =
    let found = found_in c.args.paths.now in
    let all = c.args.all.items in
    one_unshadowed g.I.Instance.same_datum (precedes c.args.order.now) c.before-end.ensures.strict (map found all) (omega (arith, c.if-len-lt2.true, c.args.all.ok.0, length-map all found))

pub marks_of-requires-clause-there : goal.marks_of-requires-clause-there
marks_of-requires-clause-there g c =
    subst (λ (t : List (FoundAt g.row.I-Datum.Denot)). AreThere c.args.paths.now t) (sym c.as_slice.ensures.value)
    (there_moved c.args.paths.now c.args.all.items c.by_key-keyed.result.items c.by_key-keyed.ensures.same c.requires.there)

pub without_marked-requires : goal.without_marked-requires
without_marked-requires g c =
    let keyed = c.by_key-keyed.result.items in
    let found = found_in c.args.paths.now in
    let marks = c.in_ok-shadowed.shadowed.items in
    let same = g.I.Instance.same_datum in
    let order = precedes c.args.order.now in
    let marked : AreMarked same order (map found keyed) (map found keyed) marks = subst (λ (t : List (FoundAt g.row.I-Datum.Denot)). AreMarked same order (map found t) (map found t) marks) c.as_slice.ensures.value c.in_ok-shadowed.ensures in
    ap length c.as_slice-2.ensures.value ∙ (marked_length same order (map found keyed) (map found keyed) marks marked ∙ length-map keyed found)

pub returns-clause-there : goal.returns-clause-there
returns-clause-there g c =
    let t = c.args.paths.now in
    let keyed = c.by_key-keyed.result.items in
    let marks = c.in_ok-shadowed.shadowed.items in
    let left : c.in_ok-without_marked.field-0.items ≡ unmarked keyed marks = c.in_ok-without_marked.ensures ∙ ap (λ (bs : List Bool). unmarked keyed bs) c.as_slice-2.ensures.value in
    subst (λ (fs : List (FoundAt g.row.I-Datum.Denot)). AreThere t fs) (sym left)
    (unmarked_each (λ (f : FoundAt g.row.I-Datum.Denot). f.place < length t.paths) keyed marks (there_moved t c.args.all.items keyed c.by_key-keyed.ensures.same c.requires.there))

pub returns-clause-once : goal.returns-clause-once
returns-clause-once g c =
    let keyed = c.by_key-keyed.result.items in
    let found = found_in c.args.paths.now in
    let marks = c.in_ok-shadowed.shadowed.items in
    let same = g.I.Instance.same_datum in
    let order = precedes c.args.order.now in
    let marked : AreMarked same order (map found keyed) (map found keyed) marks = subst (λ (t : List (FoundAt g.row.I-Datum.Denot)). AreMarked same order (map found t) (map found t) marks) c.as_slice.ensures.value c.in_ok-shadowed.ensures in
    let left : map found c.in_ok-without_marked.field-0.items ≡ unmarked (map found keyed) marks = ap (map found) (c.in_ok-without_marked.ensures ∙ ap (λ (bs : List Bool). unmarked keyed bs) c.as_slice-2.ensures.value) ∙ unmarked_map found keyed marks in
    subst (λ (t : List (Found g.row.I-Datum.Denot)). IsDistinct (map (λ f. f.path) t)) (sym left)
    (shown_once same order (map found keyed) (map found keyed) (unmarked (map found keyed) marks) (marked_gathers same order (map found keyed) (map found keyed) marks marked)
    (distinct_sorted (map found c.args.all.items) (map found keyed) (IsPermutation-map found c.args.all.items keyed c.by_key-keyed.ensures.same) c.requires.once))

pub returns-clause-unshadowed : goal.returns-clause-unshadowed
returns-clause-unshadowed g c =
    let keyed = c.by_key-keyed.result.items in
    let found = found_in c.args.paths.now in
    let marks = c.in_ok-shadowed.shadowed.items in
    let same = g.I.Instance.same_datum in
    let order = precedes c.args.order.now in
    let marked : AreMarked same order (map found keyed) (map found keyed) marks = subst (λ (t : List (FoundAt g.row.I-Datum.Denot)). AreMarked same order (map found t) (map found t) marks) c.as_slice.ensures.value c.in_ok-shadowed.ensures in
    let left : map found c.in_ok-without_marked.field-0.items ≡ unmarked (map found keyed) marks = ap (map found) (c.in_ok-without_marked.ensures ∙ ap (λ (bs : List Bool). unmarked keyed bs) c.as_slice-2.ensures.value) ∙ unmarked_map found keyed marks in
    let shown : Gathers (IsShown same order (map found keyed)) (map found keyed) (map found c.in_ok-without_marked.field-0.items) = subst (λ (t : List (Found g.row.I-Datum.Denot)). Gathers (IsShown same order (map found keyed)) (map found keyed) t) (sym left) (marked_gathers same order (map found keyed) (map found keyed) marks marked) in
    unshadowed_moved same order (map found c.args.all.items) (map found keyed) (map found c.in_ok-without_marked.field-0.items)
    (alike_moved found c.args.all.items keyed c.by_key-keyed.ensures.same)
    (shown_all same order (map found keyed) (map found c.in_ok-without_marked.field-0.items) shown)
