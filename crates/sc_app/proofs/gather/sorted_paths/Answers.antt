use Rattle.std.proofs.Common.{map, string_bytes, Option, IfSome, List, subst}
use Rattle.std.proofs.lemmas.List.Filters.{dedup_is}
use Rattle.sc_io.specs.SourceTree.{FileOf, HasDistinctPaths, ListsSources}
use Rattle.sc_app.specs.Gathered.{ListsInOrder}
use Rattle.sc_app.proofs.PathOrder.{in_order, same_string}
use Rattle.sc_app.proofs.Telling.{IfSome-map2}
use Rattle.sc_app.proofs.gather.sorted_paths.Goals as goal

pub returns-clause-listed : goal.returns-clause-listed
returns-clause-listed g c =
    let sorted = c.sort.new.self.items in
    let listed = c.in_ok-paths.paths.items in
    let old = g.T.SourceTree.files c.args.tree.now in
    let lists = subst (λ (o : Option (List FileOf)). IfSome o (λ fs. ListsSources fs (map string_bytes listed))) c.in_ok-paths.ensures.same c.in_ok-paths.ensures.listed in
    let distinct = subst (λ (o : Option (List FileOf)). IfSome o HasDistinctPaths) c.in_ok-paths.ensures.same c.in_ok-paths.ensures.distinct in
    rw (dedup_is same_string sorted _ c.dedup.ensures.filtered) (IfSome-map2 old HasDistinctPaths (λ fs. ListsSources fs (map string_bytes listed)) (λ fs. ListsInOrder fs _) (in_order listed sorted c.sort.ensures.permutation c.in_ok-sort.ensures.sorted) distinct lists)
