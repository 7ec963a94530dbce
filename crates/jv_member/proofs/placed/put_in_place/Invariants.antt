use Rattle.std.proofs.Common.{◌≡◌, ◌++◌, map, length}
use Rattle.jv_member.specs.MemberDecls.{own_of}
use Rattle.jv_member.specs.Members.{placed}
use Rattle.jv_member.specs.Placed.{placed_of}
use Rattle.jv_member.proofs.placed.put_in_place.Given as goal

abbrev pub invariant-loop-rest : goal.invariant-loop-rest
invariant-loop-rest l = map placed_of l.found.items ++ placed l.rest (map own_of l.left) ≡ placed l.fn.scopes (map own_of l.fn.members)

abbrev pub decreases-loop-rest : goal.decreases-loop-rest
decreases-loop-rest l = length l.rest
