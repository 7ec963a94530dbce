use Rattle.std.proofs.Common.{◌≡◌, length, drop}
use Rattle.std.specs.List.{prefix_len}
use Rattle.std.specs.Str.{chars, IsUtf8}
use Rattle.jv_lex.specs.Character.{continues_word}
use Rattle.jv_lex.proofs.characters.behind_word.Given as goal

abbrev pub invariant-loop-ch : goal.invariant-loop-ch
invariant-loop-ch l = record { utf8 : IsUtf8 l.rest; same : drop (prefix_len continues_word (chars l.rest)) (chars l.rest) ≡ drop (prefix_len continues_word (chars l.text)) (chars l.text) }

abbrev pub decreases-loop-ch : goal.decreases-loop-ch
decreases-loop-ch l = length l.rest
