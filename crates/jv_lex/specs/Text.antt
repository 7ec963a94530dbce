-- The first token of a text.
use Rattle.std.specs.Prelude.{◌≡◌, ℕ, ◌<◌, Bool, true, false, ◌==◌, ◌&&◌, ◌||◌, List, [], ◌∷◌, ◌++◌, length, drop, Option, Some, None, if◌then◌else◌}
use Rattle.std.specs.Char.{is_digit}
use Rattle.jv_lex.specs.Character.{begins_word}
use Rattle.jv_lex.specs.Gap.{begins_gap}
use Rattle.jv_lex.specs.Word.{is_word, word_kind}
use Rattle.jv_lex.specs.Number.{begins_digit, behind_number, number_kind}
use Rattle.jv_lex.specs.Quoted.{closes_character, closes_string}
use Rattle.jv_lex.specs.Punctuation.{mark_kind}
use Rattle.jv_lex.specs.declared.token.TokenKind.{TokenKind}
use Rattle.jv_lex.specs.declared.token.TokenKind.TheVariants.{Char, Str, Minimum, MinimumLong, Punct}

-- what one token a whole text is, where it is one. Its first character tells the class (JLS 3.5)
abbrev pub kind_of : List ℕ → Option TokenKind
kind_of [] = None
kind_of (c ∷ cs) = if begins_word c then (if is_word (c ∷ cs) then Some (word_kind (c ∷ cs)) else None)
    else (if is_digit c 10 then number_kind (c ∷ cs)
    else (if c == 39 then (if closes_character cs then Some Char else None)
    else (if c == 34 then (if closes_string cs then Some Str else None)
    else mark_kind (c ∷ cs))))

-- a text begins as a number: its first character is a digit and no word's
abbrev pub begins_number : List ℕ → Bool
begins_number [] = false
begins_number (c ∷ cs) = if begins_word c then false else is_digit c 10

-- a text begins with a point and a digit
abbrev pub begins_fraction : List ℕ → Bool
begins_fraction [] = false
begins_fraction (c ∷ cs) = c == 46 && begins_digit cs

-- a text begins as a number, a character or a string, or with a point and a digit
abbrev pub begins_literal : List ℕ → Bool
begins_literal [] = false
begins_literal (c ∷ cs) = is_digit c 10 || c == 39 || c == 34 || begins_fraction (c ∷ cs)

-- The text is w and then what is left, and w is its first token, of the kind k: a number takes all that begins as one, any other token is the longest front that is a token.
pub record IsFirstToken (cs w rest : List ℕ) (k : TokenKind) : Type 0 where
  pub cut : cs ≡ w ++ rest
  pub kind : kind_of w ≡ Some k
  pub number : begins_number cs ≡ true → rest ≡ behind_number (drop 1 cs)
  pub longest : begins_number cs ≡ false → (v more : List ℕ) → cs ≡ v ++ more → length w < length v → kind_of v ≡ None
  pub no_gap : begins_gap cs ≡ false
  pub no_fraction : begins_fraction cs ≡ false

-- the text begins with a token of the kind k and then has what is left
abbrev pub HasToken : List ℕ → TokenKind → List ℕ → Type 0
HasToken cs k rest = (w : List ℕ) × IsFirstToken cs w rest k

-- the text begins with no token
abbrev pub HasNoToken : List ℕ → Type 0
HasNoToken cs = (w rest : List ℕ) (k : TokenKind) → IsFirstToken cs w rest k → ⊥

-- only behind a `-` may a minimum literal stand
abbrev pub MayFollow : Option TokenKind → TokenKind → Type 0
MayFollow before Minimum = before ≡ Some (Punct 29)
MayFollow before MinimumLong = before ≡ Some (Punct 29)
MayFollow before _ = Unit {0}
