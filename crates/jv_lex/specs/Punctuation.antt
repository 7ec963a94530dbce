-- Separators and operators (JLS 3.11, 3.12).
use Rattle.std.specs.Prelude.{◌≡◌, ℕ, ◌<◌, ◌++◌, length, slice_index_or, List, [], ◌∷◌, Option, None, position, codes}
use Rattle.std.specs.Option.{option_map}
use Rattle.std.specs.Str.{bytes_eq}
use Rattle.jv_lex.specs.declared.token.TokenKind.{TokenKind}
use Rattle.jv_lex.specs.declared.token.TokenKind.TheVariants.{Punct}

-- the punctuation in the order of its numbers
abbrev pub marks : List (List ℕ)
marks = codes "(" ∷ codes ")" ∷ codes "{" ∷ codes "}" ∷ codes "[" ∷ codes "]" ∷ codes ";" ∷ codes "," ∷ codes "." ∷ codes "..." ∷ codes "@" ∷ codes "::"
    ∷ codes "=" ∷ codes ">" ∷ codes "<" ∷ codes "!" ∷ codes "~" ∷ codes "?" ∷ codes ":" ∷ codes "->" ∷ codes "==" ∷ codes ">=" ∷ codes "<=" ∷ codes "!="
    ∷ codes "&&" ∷ codes "||" ∷ codes "++" ∷ codes "--" ∷ codes "+" ∷ codes "-" ∷ codes "*" ∷ codes "/" ∷ codes "&" ∷ codes "|" ∷ codes "^" ∷ codes "%"
    ∷ codes "<<" ∷ codes ">>" ∷ codes ">>>" ∷ codes "+=" ∷ codes "-=" ∷ codes "*=" ∷ codes "/=" ∷ codes "&=" ∷ codes "|=" ∷ codes "^=" ∷ codes "%="
    ∷ codes "<<=" ∷ codes ">>=" ∷ codes ">>>=" ∷ []

-- the kind of a whole text that is a mark
abbrev pub mark_kind : List ℕ → Option TokenKind
mark_kind w = option_map Punct (position (bytes_eq w) marks)

-- no front of the text is a mark
abbrev pub HasNoMark : List ℕ → Type 0
HasNoMark cs = (v more : List ℕ) → cs ≡ v ++ more → mark_kind v ≡ None

-- the text begins with the mark of this number and then has what is left, and no longer front of it is a mark
pub record IsLongestMark (cs : List ℕ) (number : ℕ) (rest : List ℕ) : Type 0 where
  pub numbered : number < 50
  pub cut : cs ≡ slice_index_or marks number [] ++ rest
  pub longest : (v more : List ℕ) → cs ≡ v ++ more → length (slice_index_or marks number []) < length v → mark_kind v ≡ None
