-- Character and string literals (JLS 3.10.4 to 3.10.6).
use Rattle.std.specs.Prelude.{ℕ, zero, suc, Bool, false, ◌==◌, ◌&&◌, ◌||◌, not, nat_le, List, [], ◌∷◌, Option, Some, None, codes, if◌then◌else◌}
use Rattle.std.specs.List.{list_any}
use Rattle.std.specs.Char.{is_digit}
use Rattle.jv_lex.specs.Character.{is_line_end}

-- a character that stands for itself between these quotes
abbrev pub is_plain : ℕ → ℕ → Bool
is_plain quote c = not (c == quote) && not (c == 92) && not (is_line_end c)

-- the letters, quotes and the backslash that stand behind the backslash of an escape
abbrev pub is_escape_letter : ℕ → Bool
is_escape_letter c = list_any (λ d. c == d) (codes "btnfr\"'\\")

-- an octal digit
abbrev pub is_octal : ℕ → Bool
is_octal c = is_digit c 8

-- a whole text is one character up to U+FFFF, or one escape: a letter, or one to three octal digits up to 377; and then a closing quote
abbrev pub closes_character : List ℕ → Bool
closes_character [] = false
closes_character (c ∷ []) = false
closes_character (c ∷ q ∷ []) = is_plain 39 c && nat_le c 0xFFFF && q == 39
closes_character (b ∷ c ∷ q ∷ []) = b == 92 && (is_escape_letter c || is_octal c) && q == 39
closes_character (b ∷ c ∷ d ∷ q ∷ []) = b == 92 && is_octal c && is_octal d && q == 39
closes_character (b ∷ c ∷ d ∷ e ∷ q ∷ []) = b == 92 && is_octal c && nat_le c 51 && is_octal d && is_octal e && q == 39
closes_character (b ∷ c ∷ d ∷ e ∷ f ∷ q ∷ cs) = false

-- a whole text is plain characters and escapes, and then a closing quote. The second and the third digit of an octal escape count as plain here
abbrev pub closes_string : List ℕ → Bool
closes_string [] = false
closes_string (q ∷ []) = q == 34
closes_string (c ∷ d ∷ cs) = if c == 92 then (is_escape_letter d || is_octal d) && closes_string cs else is_plain 34 c && closes_string (d ∷ cs)

-- what stands behind the closing quote, where one comes first
abbrev pub behind_quote : List ℕ → Option (List ℕ)
behind_quote [] = None
behind_quote (c ∷ cs) = if c == 39 then Some cs else None

-- what stands behind octal digits, of which n at most are taken
abbrev pub behind_octals : ℕ → List ℕ → List ℕ
behind_octals zero cs = cs
behind_octals (suc n) [] = []
behind_octals (suc n) (c ∷ cs) = if is_octal c then behind_octals n cs else c ∷ cs

-- what stands behind the rest of an escape whose backslash was taken away, and behind the closing quote that follows
abbrev pub behind_escape : List ℕ → Option (List ℕ)
behind_escape [] = None
behind_escape (c ∷ cs) = if is_octal c then behind_quote (behind_octals (if nat_le c 51 then 2 else 1) cs)
    else (if is_escape_letter c then behind_quote cs else None)

-- what stands behind the character literal whose opening quote was taken away
abbrev pub behind_character : List ℕ → Option (List ℕ)
behind_character [] = None
behind_character (c ∷ cs) = if c == 92 then behind_escape cs else (if is_plain 39 c && nat_le c 0xFFFF then behind_quote cs else None)

-- what stands behind the string literal whose opening quote was taken away
abbrev pub behind_string : List ℕ → Option (List ℕ)
behind_string [] = None
behind_string (q ∷ []) = if q == 34 then Some [] else None
behind_string (c ∷ d ∷ cs) = if c == 34 then Some (d ∷ cs)
    else (if c == 92 then (if is_escape_letter d || is_octal d then behind_string cs else None)
    else (if is_line_end c then None else behind_string (d ∷ cs)))
