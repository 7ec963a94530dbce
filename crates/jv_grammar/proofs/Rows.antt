-- Rows of square brackets, of which the last one may be open: what bounds the pairs in what begins a type or a new array.
use Rattle.std.specs.Prelude.{ℕ, suc, ◌≤◌, List, [], ◌∷◌}
use Rattle.jv_grammar.specs.declared.terminal.Terminal.{Terminal}
use Rattle.jv_grammar.specs.declared.terminal.Terminal.TheVariants.{Punct}
use Rattle.jv_grammar.specs.Load.{IsClosed, IsShallow}
use Rattle.jv_grammar.specs.TypeBegins.{BeginsPairs, begun_pairs_none, begun_pairs_open, begun_pairs_more}

-- a list begins with so many square brackets, each directly behind the pair before; a pair may hold an index, the last may be open
pub data BeginsWithRow : ℕ → List Terminal → Type 0 where
  row_none : {ts : List Terminal} → BeginsWithRow 0 ts
  row_open : {at : ℕ} {ts : List Terminal} → BeginsWithRow 1 (Punct at 4 ∷ ts)
  row_pair : {n at end : ℕ} {ts us : List Terminal}
      → IsClosed ts (Punct end 5 ∷ us) → BeginsWithRow n us → BeginsWithRow (suc n) (Punct at 4 ∷ ts)

-- nowhere do more than 200 square brackets follow one another
abbrev pub HasShortRows : List Terminal → Type 0
HasShortRows [] = Unit
HasShortRows (t ∷ ts) = ((n : ℕ) → BeginsWithRow n (t ∷ ts) → n ≤ 200) × HasShortRows ts

-- in shallow terminals no more than 200 square brackets follow one another, though the last one may be open
abbrev pub ShallowHasShortRows : Type 0
ShallowHasShortRows = (ts : List Terminal) → IsShallow ts → HasShortRows ts

-- how many pairs there are, with an open one
abbrev pub begun_count_pairs : {xs : List Terminal} → BeginsPairs xs → ℕ
begun_count_pairs begun_pairs_none = 0
begun_count_pairs begun_pairs_open = 1
begun_count_pairs (begun_pairs_more r) = suc (begun_count_pairs r)
