use Rattle.std.proofs.Common.{◌≡◌, drop}
use Rattle.jv_tree.specs.DeclTree.{member_trees}
use Rattle.jv_layout.specs.Folder.{has_ctor}
use Rattle.jv_unit.proofs.member_places.has_ctor.Given as goal

abbrev pub invariant-loop-member : goal.invariant-loop-member
invariant-loop-member l = has_ctor (member_trees (drop l.member-index l.body)) ≡ has_ctor (member_trees l.body)
