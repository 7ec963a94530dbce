-- Where a reader stops: at the end of the terminals, or at one of them; and what reading a front of terminals has to do with reading
-- them all.
use Rattle.std.specs.Prelude.{◌≡◌, ◌≤◌, List, [], ◌++◌, length, Result, Ok, Err}
use Rattle.jv_grammar.specs.declared.terminal.Terminal.{Terminal}
use Rattle.jv_grammar.specs.Reader.{Reads, ◌>>=◌}

-- the terminals behind what is read, or from the refused one on
abbrev pub left_of : {A : Type 0} → Reads A → List Terminal
left_of (Ok r) = r.1
left_of (Err e) = e

-- the reader comes to the end: it takes all terminals, or asks for one more
abbrev pub Ends : {A : Type 0} → Reads A → Type 0
Ends r = left_of r ≡ []

-- the reader asks for one more terminal at the end
abbrev pub Stops : {A : Type 0} → Reads A → Type 0
Stops r = r ≡ Err []

-- all terminals are taken
abbrev pub all_of : {A : Type 0} → Result A (List Terminal) → Reads A
all_of r = r >>= λ x. Ok (x, [])

-- what a reader leaves is no longer than what it is given
abbrev pub IsShort : {A : Type 0} → (List Terminal → Reads A) → Type 0
IsShort read = (xs : List Terminal) → length (left_of (read xs)) ≤ length xs

-- What is read of a front (the first result) and of the front with ws behind it (the second): reading the front comes to its end, and
-- all that is left of the whole stands in ws; or both give the same, with ws behind what is left; or both are refused at the same
-- terminal of the front.
pub data IsCut {A : Type 0} (ws : List Terminal) : Reads A → Reads A → Type 0 where
  ends : {q r : Reads A} → Ends q → length (left_of r) ≤ length ws → IsCut ws q r
  gives : {x : A} {ys : List Terminal} → IsCut ws (Ok (x, ys)) (Ok (x, ys ++ ws))
  refuses : {ys : List Terminal} → IsCut ws (Err ys) (Err (ys ++ ws))

-- so it is for each front and whatever stands behind it
abbrev pub AreCut : {A : Type 0} → (List Terminal → Reads A) → Type 0
AreCut read = (zs ws : List Terminal) → IsCut ws (read zs) (read (zs ++ ws))

-- a reader leaves no more than it is given, and is cut alike
pub record IsCutting {A : Type 0} (read : List Terminal → Reads A) : Type 0 where
  pub short : IsShort read
  pub cut : AreCut read
