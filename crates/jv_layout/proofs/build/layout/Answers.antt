use Rattle.std.proofs.Common.{◌≡◌, ◌<◌, ◌^◌, length, map, sym, ap, ◌∙◌, subst, arith}
use Rattle.std.proofs.lemmas.List.{length-map}
use Rattle.jv_tree.specs.DeclTree.{tree_of}
use Rattle.jv_layout.specs.Folder.{paths_of}
use Rattle.jv_layout.specs.Linked.{IsLinked}
use Rattle.jv_layout.specs.Paths.{path_at}
use Rattle.jv_layout.specs.Scopes.{scope_count}
use Rattle.jv_layout.proofs.Linking.{few_paths, few_scopes, rows_linked, rows_same}
use Rattle.jv_layout.proofs.build.layout.Goals as goal

pub package_rows-requires-clause-few : goal.package_rows-requires-clause-few
package_rows-requires-clause-few c =
    let us = map tree_of c.args.files.now in
    let few : length (paths_of c.args.names.now us) < 2 ^ 28 = few_paths c.args.names.now us c.requires in
    let same : length (map (path_at us) c.in_ok-named.named.paths.items) ≡ length (paths_of c.args.names.now us) = ap length c.in_ok-named.ensures.paths in
    let at : length c.deref-3.result.now ≡ length c.in_ok-named.named.paths.items = ap length c.deref-3.ensures.value in
    omega (arith, few, same, at, length-map c.in_ok-named.named.paths.items (path_at us))

pub file_rows-requires-clause-few : goal.file_rows-requires-clause-few
file_rows-requires-clause-few c =
    let us = map tree_of c.args.files.now in
    let few : length (paths_of c.args.names.now us) < 2 ^ 28 = few_paths c.args.names.now us c.requires in
    let same : length (map (path_at us) c.in_ok-named.named.paths.items) ≡ length (paths_of c.args.names.now us) = ap length c.in_ok-named.ensures.paths in
    let at : length c.deref-5.result.now ≡ length c.in_ok-named.named.paths.items = ap length c.deref-5.ensures.value in
    omega (arith, few, same, at, length-map c.in_ok-named.named.paths.items (path_at us))

pub from_rows-requires-clause-linked : goal.from_rows-requires-clause-linked
from_rows-requires-clause-linked c =
    subst IsLinked (sym (rows_same c.args.names.now c.args.files.now c.deref-3.result.now c.deref-5.result.now c.in_ok-named.named.paths.items _ _ _ _ _ c.deref-3.ensures.value c.deref-5.ensures.value c.in_ok-named.ensures.paths
    c.in_ok-packages.ensures c.in_ok-files_packages.ensures c.in_ok-add_files.ensures.types c.in_ok-add_files.ensures.members c.in_ok-statics.ensures)) (rows_linked c.args.names.now (map tree_of c.args.files.now) c.requires)

pub from_rows-requires-clause-few : goal.from_rows-requires-clause-few
from_rows-requires-clause-few c =
    subst (λ l. scope_count l < 2 ^ 31) (sym (rows_same c.args.names.now c.args.files.now c.deref-3.result.now c.deref-5.result.now c.in_ok-named.named.paths.items _ _ _ _ _ c.deref-3.ensures.value c.deref-5.ensures.value c.in_ok-named.ensures.paths
    c.in_ok-packages.ensures c.in_ok-files_packages.ensures c.in_ok-add_files.ensures.types c.in_ok-add_files.ensures.members c.in_ok-statics.ensures)) (few_scopes c.args.names.now (map tree_of c.args.files.now) c.requires)

pub returns-clause-value : goal.returns-clause-value
returns-clause-value c =
    c.in_ok-from_rows.ensures ∙ rows_same c.args.names.now c.args.files.now c.deref-3.result.now c.deref-5.result.now c.in_ok-named.named.paths.items _ _ _ _ _ c.deref-3.ensures.value c.deref-5.ensures.value c.in_ok-named.ensures.paths
    c.in_ok-packages.ensures c.in_ok-files_packages.ensures c.in_ok-add_files.ensures.types c.in_ok-add_files.ensures.members c.in_ok-statics.ensures
