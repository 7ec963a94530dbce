-- Numbers (JLS 3.10.1).
use Rattle.std.specs.Prelude.{ℕ, ◌+◌, ◌*◌, ◌^◌, Bool, true, false, ◌==◌, ◌&&◌, ◌||◌, not, nat_lt, List, [], ◌∷◌, drop, take_while, Option, Some, None, if◌then◌else◌}
use Rattle.std.specs.List.{fold, prefix_len}
use Rattle.std.specs.Char.{is_digit, digit_value}
use Rattle.jv_lex.specs.Character.{continues_word}
use Rattle.jv_lex.specs.Gap.{begins_with}
use Rattle.jv_lex.specs.declared.token.TokenKind.{TokenKind}
use Rattle.jv_lex.specs.declared.token.TokenKind.TheVariants.{Int, Long, Minimum, MinimumLong}

-- a text begins with a decimal digit
abbrev pub begins_digit : List ℕ → Bool
begins_digit [] = false
begins_digit (c ∷ cs) = is_digit c 10

-- a text without the point that it begins with
abbrev pub without_point : List ℕ → List ℕ
without_point [] = []
without_point (c ∷ cs) = if c == 46 then cs else c ∷ cs

-- what stands behind the number whose first digit was taken away: behind the run of characters that continue a word, and behind a point directly behind that run
abbrev pub behind_number : List ℕ → List ℕ
behind_number cs = without_point (drop (prefix_len continues_word cs) cs)

-- the value of digits
abbrev pub value : ℕ → List ℕ → ℕ
value radix ds = fold (λ v d. v * radix + digit_value d) 0 ds

-- the digits that a text begins with
abbrev pub digits : ℕ → List ℕ → List ℕ
digits radix w = take_while (λ c. is_digit c radix) w

-- what stands behind them
abbrev pub behind_digits : ℕ → List ℕ → List ℕ
behind_digits radix w = drop (prefix_len (λ c. is_digit c radix) w) w

-- a text is empty, as what stands behind the digits of an `int`
abbrev pub is_nothing : List ℕ → Bool
is_nothing [] = true
is_nothing (c ∷ cs) = false

-- a text is `l` or `L`, as what stands behind the digits of a `long`
abbrev pub is_long_mark : List ℕ → Bool
is_long_mark [] = false
is_long_mark (c ∷ cs) = (c == 108 || c == 76) && is_nothing cs

-- decimal digits: `0`, or digits that begin with another digit
abbrev pub is_decimal : List ℕ → Bool
is_decimal [] = false
is_decimal (d ∷ ds) = not (d == 48) || is_nothing ds

-- a decimal value of 31 or 63 bits, or the one above it, which only a minus sign makes a number of the type
abbrev pub up_to : ℕ → TokenKind → TokenKind → ℕ → Option TokenKind
up_to limit kind minimum n = if nat_lt n limit then Some kind else (if n == limit then Some minimum else None)

-- the kind of decimal digits and what stands behind them
abbrev pub decimal_kind : List ℕ → List ℕ → Option TokenKind
decimal_kind ds behind = if not (is_decimal ds) then None
    else (if is_nothing behind then up_to (2 ^ 31) Int Minimum (value 10 ds)
    else (if is_long_mark behind then up_to (2 ^ 63) Long MinimumLong (value 10 ds) else None))

-- a value below a limit
abbrev pub below : ℕ → TokenKind → ℕ → Option TokenKind
below limit kind n = if nat_lt n limit then Some kind else None

-- the kind of hexadecimal digits, of 32 or 64 bits, and what stands behind them
abbrev pub hexadecimal_kind : List ℕ → List ℕ → Option TokenKind
hexadecimal_kind ds behind = if is_nothing ds then None
    else (if is_nothing behind then below (2 ^ 32) Int (value 16 ds)
    else (if is_long_mark behind then below (2 ^ 64) Long (value 16 ds) else None))

-- a text begins with `0x` or `0X`
abbrev pub begins_hexadecimal : List ℕ → Bool
begins_hexadecimal [] = false
begins_hexadecimal (c ∷ cs) = c == 48 && (begins_with 120 cs || begins_with 88 cs)

-- the kind of a whole text that is a number
abbrev pub number_kind : List ℕ → Option TokenKind
number_kind w = if begins_hexadecimal w then hexadecimal_kind (digits 16 (drop 2 w)) (behind_digits 16 (drop 2 w))
    else decimal_kind (digits 10 w) (behind_digits 10 w)
