use Rattle.std.proofs.Common.{◌≡◌, map, rules}
use Rattle.std.proofs.lemmas.Fn.{always_returns_same}
use Rattle.std.proofs.lemmas.List.Sorted.{ranks_by}
use Rattle.std.specs.Ordering.{is_lt}
use Rattle.jv_tree.specs.DeclTree.{tree_of}
use Rattle.jv_layout.specs.Folder.{path_cmp}
use Rattle.jv_layout.specs.Paths.{path_at}
use Rattle.jv_layout.proofs.Paths.{path_total}
use Rattle.jv_layout.proofs.Sorting.{puts_sorted}
use Rattle.jv_layout.proofs.packages.sorted.Goals as goal

pub returns : goal.returns
returns c =
    let f = path_at (map tree_of c.args.files.now) in
    let names = c.args.names.now in
    puts_sorted f (path_cmp names) (path_total names) c.args.packages.items c.sort_by.new.self.items
    (c.sort_by.ensures.stable _ (ranks_by (path_total names) f) (always_returns_same _ (λ a r. is_lt r ≡ is_lt (path_cmp names (f a.0.now) (f a.1.0.now))) _ (λ a r k h. search (rules, c.requires))))
