-- Counts below an offset.
use Rattle.std.proofs.Common.{◌≡◌, ℕ, zero, suc, ◌+◌, ◌-◌, ◌≤◌, Bool, List, subst, inl, inr, arith}
use Rattle.std.proofs.lemmas.Bool.{cases_Bool}
use Rattle.jv_lex.specs.Place.{count_below, ends_line, begins_character, line_start, column_of}

pub count_up : (p : ℕ → Bool) (m k : ℕ) → count_below p m ≤ count_below p (m + k)
count_up p m zero = let same : m ≡ m + 0 = omega arith in subst (λ (j : ℕ). count_below p m ≤ count_below p j) same (omega arith)
count_up p m (suc k) =
    let same : suc (m + k) ≡ m + suc k = omega arith in
    subst (λ (j : ℕ). count_below p m ≤ count_below p j) same (omega (arith, count_up p m k))

pub line_start_le : (bytes : List ℕ) (n : ℕ) → line_start bytes n ≤ n
line_start_le bytes zero = omega arith
line_start_le bytes (suc n) = elim (cases_Bool (ends_line bytes n)) [ inl e ↦ rw e (omega arith) | inr e ↦ rw e (omega (arith, line_start_le bytes n)) ]

pub column_adds : (bytes : List ℕ) (n column : ℕ) → column ≡ column_of bytes n → column + count_below (begins_character bytes) (line_start bytes n) ≡ 1 + count_below (begins_character bytes) n
column_adds bytes n column e =
    let low = line_start_le bytes n in
    let up = count_up (begins_character bytes) (line_start bytes n) (n - line_start bytes n) in
    let same : line_start bytes n + (n - line_start bytes n) ≡ n = omega (arith, low) in
    let more = subst (λ (k : ℕ). count_below (begins_character bytes) (line_start bytes n) ≤ count_below (begins_character bytes) k) same up in
    omega (arith, e, more)

pub column_is : (bytes : List ℕ) (n column : ℕ) → column + count_below (begins_character bytes) (line_start bytes n) ≡ 1 + count_below (begins_character bytes) n → 1 ≤ column → column ≡ column_of bytes n
column_is bytes n column e some = omega (arith, e, some)
