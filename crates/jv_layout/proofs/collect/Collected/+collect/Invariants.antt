use Rattle.std.proofs.Common.{◌≡◌, ◌++◌, length, drop}
use Rattle.jv_tree.specs.DeclTree.{member_trees}
use Rattle.jv_layout.specs.Folder.{body_types, body_members}
use Rattle.jv_layout.proofs.collect.Collected.+collect.Given as goal

abbrev pub invariant-add_body-loop-member : goal.invariant-add_body-loop-member
invariant-add_body-loop-member l = record {
  types : l.self.types.items ++ body_types l.file l.owner l.top (length l.self.types.items) (member_trees (drop l.member-index l.body.items)) ≡ l.initial.self.types.items ++ body_types l.file l.owner l.top (length l.initial.self.types.items) (member_trees l.body.items);
  members : l.self.members.items ++ body_members l.owner l.class (length l.self.types.items) (member_trees (drop l.member-index l.body.items)) ≡ l.initial.self.members.items ++ body_members l.owner l.class (length l.initial.self.types.items) (member_trees l.body.items);
}
