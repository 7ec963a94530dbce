use Rattle.std.proofs.Common.{◌≡◌, List, map, sym, ap, ◌∙◌, subst}
use Rattle.std.proofs.lemmas.Result.{IfOk-weaker}
use Rattle.sg_base.specs.List.{IsRising}
use Rattle.sg_order.specs.Order.{precedes}
use Rattle.sg_query.specs.declared.found.Found.{Found}
use Rattle.sg_query.specs.Answer.{found_cmp}
use Rattle.sg_query.specs.Found.{FoundTreeOf, found_in}
use Rattle.sg_query.specs.Shadow.{AreUnshadowed}
use Rattle.sg_query.proofs.Shadowing.{unshadowed_alike}
use Rattle.sg_query.proofs.Trees.{alike_moved, there_moved}
use Rattle.sg_query.proofs.shadow.visible_of.Goals as goal

pub of-requires : goal.of-requires
of-requires g c =
    there_moved c.parts-paths.result.0 c.in_ok-unshadowed.unshadowed.items c.sorted-rising.result.items c.sorted-rising.ensures.same c.in_ok-unshadowed.ensures.there

pub returns : goal.returns
returns g c =
    let same = g.I.Instance.same_datum in
    let order = precedes c.args.order.now in
    let found = found_in c.parts-paths.result.0 in
    let shown = c.in_ok-unshadowed.unshadowed.items in
    let sorted = c.sorted-rising.result.items in
    let left : AreUnshadowed same order c.args.all.found (map found sorted) =
    subst (λ (t : List (Found g.row.I-Datum.Denot)). AreUnshadowed same order t (map found sorted)) (sym c.parts-paths.ensures.found)
    (unshadowed_alike same order (map found c.parts-paths.result.1.items) (map found shown) (map found sorted) (alike_moved found shown sorted c.sorted-rising.ensures.same) c.in_ok-unshadowed.ensures.unshadowed) in
    IfOk-weaker c.new.result (λ r. r ≡ c.of.result.found) (λ r. IsRising found_cmp r × AreUnshadowed same order c.args.all.found r)
    (λ r e.
    subst (λ (t : List (Found g.row.I-Datum.Denot)). IsRising found_cmp t × AreUnshadowed same order c.args.all.found t) (sym (e ∙ ap (λ (t : FoundTreeOf g.row.I-Datum.Denot). t.found) c.of.ensures)) (c.sorted-rising.ensures.rising, left))
    c.new.ensures
