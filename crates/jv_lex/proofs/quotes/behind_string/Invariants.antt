use Rattle.std.proofs.Common.{◌≡◌, length}
use Rattle.std.specs.Str.{chars, IsUtf8}
use Rattle.jv_lex.specs.Quoted.{behind_string}
use Rattle.jv_lex.proofs.quotes.behind_string.Given as goal

abbrev pub invariant-loop-ch : goal.invariant-loop-ch
invariant-loop-ch l = record { utf8 : IsUtf8 l.rest; same : behind_string (chars l.rest) ≡ behind_string (chars l.text) }

abbrev pub decreases-loop-ch : goal.decreases-loop-ch
decreases-loop-ch l = length l.rest
