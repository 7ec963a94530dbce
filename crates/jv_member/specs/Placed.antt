-- What contracts see of a member with its scope.
use Rattle.jv_member.specs.declared.placed.PlacedDecl.{PlacedDecl}
use Rattle.jv_member.specs.MemberDecls.{own_of}
use Rattle.jv_member.specs.Members.{Placed}

-- the plain data of a member of the code with its scope
abbrev pub placed_of : PlacedDecl → Placed
placed_of p = (p.scope, own_of p.member)
