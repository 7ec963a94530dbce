use Rattle.std.proofs.Common.{◌≡◌, ◌++◌, map, drop}
use Rattle.jv_tree.specs.DeclTree.{member_trees}
use Rattle.jv_member.specs.MemberDecls.{own_of}
use Rattle.jv_member.specs.Own.{body_own}
use Rattle.jv_member.proofs.member_decl.add_body.Given as goal

abbrev pub invariant-loop-member : goal.invariant-loop-member
invariant-loop-member l = map own_of l.own.items ++ body_own (member_trees (drop l.member-index l.body)) ≡ map own_of l.initial.own.items ++ body_own (member_trees l.body)
