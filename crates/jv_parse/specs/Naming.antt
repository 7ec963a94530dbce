-- Tokens as terminals of the grammar: an identifier has the number of its text among the names.
use Rattle.std.specs.Prelude.{◌≡◌, ℕ, suc, Bool, true, false, cond, List, [], ◌∷◌, map, filter, fold, Some, slice_get, slice_range, if◌then◌else◌, nat_eq}
use Rattle.std.specs.Str.{bytes_eq}
use Rattle.jv_lex.specs.declared.token.Token.{Token}
use Rattle.jv_lex.specs.declared.token.TokenKind.{TokenKind}
use Rattle.jv_lex.specs.declared.token.TokenKind.TheVariants as k
use Rattle.jv_tree.specs.Names.{with_text}
use Rattle.jv_grammar.specs.declared.terminal.LiteralKind.TheVariants as l
use Rattle.jv_grammar.specs.declared.terminal.Terminal.{Terminal}
use Rattle.jv_grammar.specs.declared.terminal.Terminal.TheVariants as t

-- the text of a token
abbrev pub text_of : List ℕ → Token → List ℕ
text_of source x = slice_range source x.start x.end

-- whether a token is an identifier
abbrev pub is_identifier : TokenKind → Bool
is_identifier k.Ident = true
is_identifier (k.Keyword n) = false
is_identifier k.Int = false
is_identifier k.Long = false
is_identifier k.Minimum = false
is_identifier k.MinimumLong = false
is_identifier k.Char = false
is_identifier k.Str = false
is_identifier (k.Punct n) = false

-- the names once the texts of the identifiers among these tokens were added to them, in order
abbrev pub names_with : List ℕ → List (List ℕ) → List Token → List (List ℕ)
names_with source names tokens = fold with_text names (map (text_of source) (filter (λ x. is_identifier x.kind) tokens))

-- the place of a text among the names, from 0, or how many they are where it is none of them
abbrev pub number_of : List (List ℕ) → List ℕ → ℕ
number_of [] x = 0
number_of (y ∷ ys) x = cond (bytes_eq x y) 0 (suc (number_of ys x))

-- a keyword by its number; `true`, `false` and `null` are literals
abbrev pub word_at : ℕ → ℕ → Terminal
word_at at n = if nat_eq n 50 then t.Literal at (l.Bool true) else if nat_eq n 51 then t.Literal at (l.Bool false) else if nat_eq n 52 then t.Literal at l.Null else t.Keyword at n

-- a token of a kind, at a place; an identifier has this number
abbrev pub terminal_at : TokenKind → ℕ → ℕ → Terminal
terminal_at k.Ident at number = t.Ident (record { at = at; id = record { 0 = number } })
terminal_at (k.Keyword n) at number = word_at at n
terminal_at k.Int at number = t.Literal at l.Int
terminal_at k.Long at number = t.Literal at l.Long
terminal_at k.Minimum at number = t.Minimum at
terminal_at k.MinimumLong at number = t.MinimumLong at
terminal_at k.Char at number = t.Literal at l.Char
terminal_at k.Str at number = t.Literal at l.Str
terminal_at (k.Punct n) at number = t.Punct at n

-- the token as a terminal, by its text's number among the names
abbrev pub terminal_of : List ℕ → List (List ℕ) → Token → Terminal
terminal_of source names x = terminal_at x.kind x.start (number_of names (text_of source x))

-- the text is one of the names
abbrev pub IsKnown : List (List ℕ) → List ℕ → Type 0
IsKnown names x = (i : ℕ) × (slice_get names i ≡ Some x)

-- where the token is an identifier, its text is one of the names
abbrev pub IsNamed : List ℕ → List (List ℕ) → Token → Type 0
IsNamed source names x = is_identifier x.kind ≡ true → IsKnown names (text_of source x)
