-- Lines and columns of byte offsets (JLS 3.4).
use Rattle.std.specs.Prelude.{◌≡◌, ◌<◌, ◌≤◌, ℕ, zero, suc, ◌+◌, ◌-◌, Bool, ◌==◌, ◌&&◌, ◌||◌, not, nat_le, List, slice_index, if◌then◌else◌}
use Rattle.jv_lex.specs.declared.line_column.Place.{Place}

-- how many of the numbers below n pass
abbrev pub count_below : (ℕ → Bool) → ℕ → ℕ
count_below p zero = 0
count_below p (suc n) = count_below p n + (if p n then 1 else 0)

-- a line ends with the byte at k: an LF, or a CR that no LF follows
abbrev pub ends_line : List ℕ → ℕ → Bool
ends_line bytes k = slice_index bytes k == 10 || (slice_index bytes k == 13 && not (slice_index bytes (k + 1) == 10))

-- a byte outside 80 to BF is the first of a character
abbrev pub is_first_byte : ℕ → Bool
is_first_byte b = not (nat_le 0x80 b && nat_le b 0xBF)

-- a character begins at k
abbrev pub begins_character : List ℕ → ℕ → Bool
begins_character bytes k = is_first_byte (slice_index bytes k)

-- where the line of an offset starts: behind the last line end before it
abbrev pub line_start : List ℕ → ℕ → ℕ
line_start bytes zero = 0
line_start bytes (suc k) = if ends_line bytes k then suc k else line_start bytes k

-- the line of an offset, from 1
abbrev pub line_of : List ℕ → ℕ → ℕ
line_of bytes at = 1 + count_below (ends_line bytes) at

-- the column of an offset, from 1: by the characters between the start of its line and the offset
abbrev pub column_of : List ℕ → ℕ → ℕ
column_of bytes at = 1 + (count_below (begins_character bytes) at - count_below (begins_character bytes) (line_start bytes at))

-- the line and the column are those of the offset, but at the greatest number of 32 bits, whose line may not fit; neither is further on than the
-- offset allows
pub record IsPlace (bytes : List ℕ) (p : Place) : Type 0 where
  pub line : p.at < 4294967295 → p.line ≡ line_of bytes p.at
  pub column : p.at < 4294967295 → p.column ≡ column_of bytes p.at
  pub within : p.line ≤ 1 + p.at
  pub across : p.column ≤ 1 + p.at
  pub from_one : 1 ≤ p.column
