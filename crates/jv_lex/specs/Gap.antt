-- Blanks and comments, which stand between tokens.
use Rattle.std.specs.Prelude.{ℕ, Bool, false, ◌==◌, ◌&&◌, ◌||◌, List, [], ◌∷◌, drop, Option, Some, None, if◌then◌else◌}
use Rattle.std.specs.List.{position_or_len}
use Rattle.jv_lex.specs.Character.{is_blank, is_line_end}

-- a text begins with this character
abbrev pub begins_with : ℕ → List ℕ → Bool
begins_with c [] = false
begins_with c (d ∷ cs) = d == c

-- a text begins with a blank, or with what begins a comment: `//` or `/*`
abbrev pub begins_gap : List ℕ → Bool
begins_gap [] = false
begins_gap (c ∷ cs) = is_blank c || (c == 47 && (begins_with 47 cs || begins_with 42 cs))

-- what is left of a text from the first end of a line on, or nothing
abbrev pub from_line_end : List ℕ → List ℕ
from_line_end cs = drop (position_or_len is_line_end cs) cs

-- what stands behind the first `*/` of a text
abbrev pub behind_star_slash : List ℕ → Option (List ℕ)
behind_star_slash [] = None
behind_star_slash (c ∷ cs) = if c == 42 && begins_with 47 cs then Some (drop 1 cs) else behind_star_slash cs

-- what stands behind a comment whose first slash was taken away (JLS 3.7): up to the end of the line behind `//`, through the first `*/` behind `/*`
abbrev pub behind_comment : List ℕ → Option (List ℕ)
behind_comment [] = None
behind_comment (c ∷ cs) = if c == 47 then Some (from_line_end cs) else (if c == 42 then behind_star_slash cs else None)

-- what stands behind the blank or the whole comment that a text begins with
abbrev pub behind_gap : List ℕ → Option (List ℕ)
behind_gap [] = None
behind_gap (c ∷ cs) = if is_blank c then Some cs else (if c == 47 then behind_comment cs else None)
