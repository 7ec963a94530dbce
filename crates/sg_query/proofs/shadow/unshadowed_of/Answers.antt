use Rattle.std.proofs.Common.{map}
use Rattle.std.proofs.lemmas.List.Sorted.{IsPermutation-map}
use Rattle.std.proofs.lemmas.Result.{IfOk-weaker}
use Rattle.sg_order.specs.Order.{precedes}
use Rattle.sg_query.specs.Found.{found_in}
use Rattle.sg_query.specs.Shadow.{AreUnshadowed}
use Rattle.sg_query.proofs.Losing.{unshadowed_lost}
use Rattle.sg_query.proofs.Shadowing.{unshadowed_moved}
use Rattle.sg_query.proofs.Sorting.{distinct_sorted}
use Rattle.sg_query.proofs.Trees.{alike_moved, there_moved}
use Rattle.sg_query.proofs.shadow.unshadowed_of.Goals as goal

pub returns-then-is_empty-clause-unshadowed : goal.returns-then-is_empty-clause-unshadowed
returns-then-is_empty-clause-unshadowed g c = λ f. ((λ k. (k, (λ s. c.is_empty.ensures.0 c.if-is_empty.true _ _ (s.3).6))), (λ k. k.0))

pub unshadowed_beside-requires-clause-there : goal.unshadowed_beside-requires-clause-there
unshadowed_beside-requires-clause-there g c = there_moved c.args.paths.now c.args.all.items c.by_key-keyed.result.items c.by_key-keyed.ensures.same c.requires.there

pub unshadowed_beside-requires-clause-once : goal.unshadowed_beside-requires-clause-once
unshadowed_beside-requires-clause-once g c =
    let found = found_in c.args.paths.now in
    let keyed = c.by_key-keyed.result.items in
    distinct_sorted (map found c.args.all.items) (map found keyed) (IsPermutation-map found c.args.all.items keyed c.by_key-keyed.ensures.same) c.requires.once

pub returns-clause-unshadowed : goal.returns-clause-unshadowed
returns-clause-unshadowed g c =
    let all = c.args.all.items in
    let keyed = c.by_key-keyed.result.items in
    let left = c.in_ok-left.left.items in
    let found = found_in c.args.paths.now in
    let same = g.I.Instance.same_datum in
    let order = precedes c.args.order.now in
    IfOk-weaker c.unshadowed_each.result (λ r. AreUnshadowed same order (map found left) (map found r.items)) (λ r. AreUnshadowed same order (map found all) (map found r.items))
    (λ r shown. unshadowed_moved same order (map found all) (map found keyed) (map found r.items) (alike_moved found all keyed c.by_key-keyed.ensures.same)
    (unshadowed_lost same order g.met.I.Instance.sameness c.unshadowed_each.ensures.strict (map found keyed) (map found left) c.in_ok-left.ensures.loses (map found r.items) shown))
    c.unshadowed_each.ensures.unshadowed
