use Rattle.std.proofs.Common.{◌≡◌, length}
use Rattle.std.specs.Str.{chars, IsUtf8}
use Rattle.jv_lex.specs.Gap.{behind_star_slash}
use Rattle.jv_lex.proofs.gaps.behind_star_slash.Given as goal

abbrev pub invariant-loop-ch : goal.invariant-loop-ch
invariant-loop-ch l = record { utf8 : IsUtf8 l.rest; same : behind_star_slash (chars l.rest) ≡ behind_star_slash (chars l.text) }

abbrev pub decreases-loop-ch : goal.decreases-loop-ch
decreases-loop-ch l = length l.rest
