-- Orders of marks.
use Rattle.std.specs.Prelude.{ℕ, ◌+◌, ◌<◌, List}
use Rattle.std.specs.List.{Contains}
use Rattle.sg_base.specs.declared.mark.Mark.{Mark}
use Rattle.sg_base.specs.declared.mark.Mark.TheVariants.{End, Of}

-- marks by number: the end, and then the labels
abbrev pub mark_number : Mark → ℕ
mark_number End = 0
mark_number (Of l) = l + 1

-- the first mark comes before the second by a chain of the given pairs
pub data Precedes (pairs : List (Mark × Mark)) : Mark → Mark → Type 0 where
  given : {a b : Mark} → Contains pairs (a, b) → Precedes pairs a b
  through : {a b c : Mark} → Contains pairs (a, b) → Precedes pairs b c → Precedes pairs a c

-- the mark comes before itself by the pairs, and no lesser mark does
pub record IsLeastLoop (pairs : List (Mark × Mark)) (m : Mark) : Type 0 where
  pub loops : Precedes pairs m m
  pub least : (n : Mark) → mark_number n < mark_number m → Precedes pairs n n → ⊥
