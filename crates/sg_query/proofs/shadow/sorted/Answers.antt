use Rattle.std.proofs.Common.{◌≡◌, map, rules}
use Rattle.std.proofs.lemmas.Fn.{always_returns_same}
use Rattle.std.proofs.lemmas.List.MinMax.{ranks_by}
use Rattle.std.proofs.lemmas.List.Sorted.{IsPermutation-map}
use Rattle.std.specs.Ordering.{is_lt}
use Rattle.sg_base.specs.Path.{path_total}
use Rattle.sg_query.specs.declared.found_at.FoundAt.{FoundAt}
use Rattle.sg_query.specs.Answer.{found_cmp}
use Rattle.sg_query.specs.Found.{found_in}
use Rattle.sg_query.proofs.Sorting.{sorted_rise}
use Rattle.sg_query.proofs.Trees.{sorted_map}
use Rattle.sg_query.proofs.shadow.sorted.Goals as goal

pub returns-clause-rising : goal.returns-clause-rising
returns-clause-rising g c =
    let found = found_in c.args.paths.now in
    let xs = c.args.all.items in
    let ys = c.sort_unstable_by.new.self.items in
    sorted_rise (map found xs) (map found ys) c.requires (IsPermutation-map found xs ys c.sort_unstable_by.ensures.permutation)
    (sorted_map found (λ a b. is_lt (found_cmp a b)) ys
    (c.sort_unstable_by.ensures.sorted _ (ranks_by path_total (λ (f : FoundAt g.row.D.Denot). (found f).path)) (always_returns_same _ (λ a r. is_lt r ≡ is_lt (found_cmp (found a.0.now) (found a.1.0.now))) _ (λ a r k h. search rules))))
