use Rattle.std.proofs.Common.{◌≡◌, ◌++◌, map, drop}
use Rattle.jv_member.specs.Members.{declarations_of}
use Rattle.jv_member.specs.Placed.{placed_of}
use Rattle.jv_member.proofs.members.placed_diags.Given as goal

abbrev pub invariant-loop-member : goal.invariant-loop-member
invariant-loop-member l = l.all ++ declarations_of l.l l.names l.ty l.type_name (map placed_of (drop l.member-index l.placed)) ≡ declarations_of l.l l.names l.ty l.type_name (map placed_of l.fn.placed)
