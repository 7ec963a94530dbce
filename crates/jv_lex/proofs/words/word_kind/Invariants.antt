use Rattle.std.proofs.Common.{◌≡◌, ℕ, ◌<◌, ◌≤◌, false, [], get_or}
use Rattle.std.specs.Str.{bytes_eq, chars}
use Rattle.jv_lex.specs.Word.{keywords}
use Rattle.jv_lex.specs.declared.words.TheConstants.{BY_LETTER, LETTER_PLACES}
use Rattle.jv_lex.proofs.words.word_kind.Given as goal

-- the word is none of the keywords of its letter so far
abbrev pub invariant-loop-i : goal.invariant-loop-i
invariant-loop-i l = (k : ℕ) → k < l.i → get_or LETTER_PLACES l.letter 0 ≤ k → bytes_eq (chars l.word) (get_or keywords (get_or BY_LETTER k 0) []) ≡ false
