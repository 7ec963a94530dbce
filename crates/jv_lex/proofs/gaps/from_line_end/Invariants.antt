use Rattle.std.proofs.Common.{◌≡◌, length}
use Rattle.std.specs.Str.{chars, IsUtf8}
use Rattle.jv_lex.specs.Gap.{from_line_end}
use Rattle.jv_lex.proofs.gaps.from_line_end.Given as goal

abbrev pub invariant-loop-ch : goal.invariant-loop-ch
invariant-loop-ch l = record { utf8 : IsUtf8 l.rest; same : from_line_end (chars l.rest) ≡ from_line_end (chars l.text) }

abbrev pub decreases-loop-ch : goal.decreases-loop-ch
decreases-loop-ch l = length l.rest
