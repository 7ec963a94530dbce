use Rattle.std.proofs.Common.{◌≡◌, ◌++◌, map, length}
use Rattle.jv_member.specs.MemberDecls.{own_of}
use Rattle.jv_member.specs.Members.{placed}
use Rattle.jv_unit.specs.DeclaredBodies.{blanks_among}
use Rattle.jv_unit.proofs.declared_members.blanks_among.Given as goal

abbrev pub invariant-loop-rest : goal.invariant-loop-rest
invariant-loop-rest l = l.found ++ blanks_among l.l (placed l.rest (map own_of l.left)) ≡ blanks_among l.l (placed l.fn.scopes (map own_of l.fn.members))

abbrev pub decreases-loop-rest : goal.decreases-loop-rest
decreases-loop-rest l = length l.rest
