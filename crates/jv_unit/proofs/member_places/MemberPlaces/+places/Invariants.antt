use Rattle.std.proofs.Common.{◌≡◌, ◌+◌, ◌++◌, drop}
use Rattle.jv_tree.specs.DeclTree.{member_trees}
use Rattle.jv_layout.specs.Folder.{body_count}
use Rattle.jv_unit.specs.MemberPlaces.{body_places}
use Rattle.jv_unit.proofs.member_places.MemberPlaces.+places.Given as goal

abbrev pub invariant-add_body-loop-place : goal.invariant-add_body-loop-place
invariant-add_body-loop-place l = record {
  places : l.self.places.items ++ body_places l.owner l.place l.self.types (member_trees (drop l.place l.body.items)) ≡ l.initial.self.places.items ++ body_places l.owner 0 l.initial.self.types (member_trees l.body.items);
  types : l.self.types + body_count (member_trees (drop l.place l.body.items)) ≡ l.initial.self.types + body_count (member_trees l.body.items);
}
