use Rattle.std.proofs.Common.{◌≡◌, ◌+◌, ◌<◌, ◌^◌, drop}
use Rattle.jv_tree.specs.DeclTree.{member_trees}
use Rattle.jv_layout.specs.Sizes.{body_names}
use Rattle.jv_layout.proofs.folder_size.+names.Given as goal

abbrev pub invariant-body_names-loop-member : goal.invariant-body_names-loop-member
invariant-body_names-loop-member l =
    (l.count < 2 ^ 28 → l.count + body_names (member_trees (drop l.member-index l.body.items)) ≡ body_names (member_trees l.body.items))
    × (body_names (member_trees l.body.items) < 2 ^ 28 → l.count + body_names (member_trees (drop l.member-index l.body.items)) ≡ body_names (member_trees l.body.items))
