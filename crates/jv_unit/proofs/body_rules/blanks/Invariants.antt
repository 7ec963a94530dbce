use Rattle.std.proofs.Common.{◌≡◌}
use Rattle.jv_unit.specs.Kept.{folder_of}
use Rattle.jv_unit.proofs.MemberBodies.{first_blanks}
use Rattle.jv_unit.proofs.body_rules.blanks.Given as goal

abbrev pub invariant-loop-place : goal.invariant-loop-place
invariant-loop-place l = l.found ≡ first_blanks (folder_of l.w) l.t l.place
