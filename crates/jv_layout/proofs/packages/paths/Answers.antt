use Rattle.std.proofs.Common.{List, [], map, ap, ◌∙◌}
use Rattle.std.specs.List.{fold, flat_map}
use Rattle.sg_state.specs.Held.{put}
use Rattle.jv_tree.specs.DeclTree.{UnitTree, tree_of}
use Rattle.jv_layout.specs.declared.packages.Prefix.{Prefix}
use Rattle.jv_layout.specs.Folder.{path_cmp, prefixes, clause_of}
use Rattle.jv_layout.specs.Paths.{path_at}
use Rattle.jv_layout.proofs.Paths.{path_total}
use Rattle.jv_layout.proofs.Sorting.{puts_found}
use Rattle.jv_layout.proofs.packages.paths.Goals as goal

pub returns-clause-paths : goal.returns-clause-paths
returns-clause-paths c =
    let us = map tree_of c.args.files.now in
    let R = path_cmp c.args.names.now in
    let made = λ (ps : List Prefix). fold (put R) [] (map (path_at us) ps) in
    c.in_ok-paths.ensures.paths ∙ (ap made c.deref-3.ensures.value ∙ (c.in_ok-sorted.ensures
    ∙ puts_found R (path_total c.args.names.now) (map (path_at us) c.in_ok-packages.field-0.packages.items) (flat_map (λ (u : UnitTree). prefixes (clause_of u)) us) c.in_ok-packages.ensures.packages))
