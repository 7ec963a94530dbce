use Rattle.std.proofs.Common.{◌≡◌, ◌++◌, drop}
use Rattle.jv_tree.specs.DeclTree.{member_trees}
use Rattle.jv_unit.specs.Paths.{body_paths}
use Rattle.jv_unit.proofs.decl_paths.DeclPaths.+paths.Given as goal

abbrev pub invariant-add_body-loop-place : goal.invariant-add_body-loop-place
invariant-add_body-loop-place l = record {
  paths : l.self ++ body_paths l.initial.path.items l.place (member_trees (drop l.place l.body.items)) ≡ l.initial.self ++ body_paths l.initial.path.items 0 (member_trees l.body.items);
  path : l.path.items ≡ l.initial.path.items;
}
