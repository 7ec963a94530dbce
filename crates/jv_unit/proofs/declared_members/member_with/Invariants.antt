use Rattle.std.proofs.Common.{◌≡◌, map, length}
use Rattle.jv_member.specs.MemberDecls.{own_of}
use Rattle.jv_member.specs.Members.{placed}
use Rattle.jv_unit.specs.DeclaredBodies.{member_with}
use Rattle.jv_unit.proofs.declared_members.member_with.Given as goal

abbrev pub invariant-loop-rest : goal.invariant-loop-rest
invariant-loop-rest l = member_with l.member (placed l.rest (map own_of l.left)) ≡ member_with l.member (placed l.fn.scopes (map own_of l.fn.members))

abbrev pub decreases-loop-rest : goal.decreases-loop-rest
decreases-loop-rest l = length l.rest
