use Rattle.std.proofs.Common.{◌≡◌, ℕ, ◌<◌, List, [], ◌++◌, get_or}
use Rattle.std.specs.Str.{chars}
use Rattle.jv_lex.specs.Punctuation.{marks}
use Rattle.jv_lex.specs.declared.punctuation.TheConstants.{LONGER_FIRST}
use Rattle.jv_lex.proofs.punctuation.longest_mark.Given as goal

-- the text begins with none of the marks so far
abbrev pub invariant-loop-i : goal.invariant-loop-i
invariant-loop-i l = (k : ℕ) → k < l.i → (rest : List ℕ) → chars l.text ≡ get_or marks (get_or LONGER_FIRST k 0) [] ++ rest → ⊥
