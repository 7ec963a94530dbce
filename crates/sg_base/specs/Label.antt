-- Labels by their numbers, words of labels, and sets of labels by the bits of a number.
use Rattle.std.specs.Prelude.{◌≡◌, ℕ, List}
use Rattle.std.specs.Int.{bit_at}

-- a word is a list of labels
abbrev pub Word : Type 0
Word = List ℕ

-- the set holds this label
abbrev pub Has : ℕ → ℕ → Type 0
Has set l = bit_at set l ≡ 1
