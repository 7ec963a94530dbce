-- What the definition of the load implies.
use Rattle.std.specs.Prelude.{ℕ, ◌≡◌, ◌≤◌, ◌⊎◌, List, Some, slice_get, take}
use Rattle.jv_grammar.specs.declared.terminal.Terminal.{Terminal}
use Rattle.jv_grammar.specs.Load.{loads_of, IsFirstDeep, IsShallow, HasFewBrackets}

-- at most one terminal is the first deep one
abbrev pub FirstDeepIsOne : Type 0
FirstDeepIsOne = (ts : List Terminal) (i j : ℕ) → IsFirstDeep ts i → IsFirstDeep ts j → i ≡ j

-- terminals are shallow, or one of them is the first deep one
abbrev pub IsShallowOrDeep : Type 0
IsShallowOrDeep = (ts : List Terminal) → IsShallow ts ⊎ ((i : ℕ) × IsFirstDeep ts i)

-- no load passes 201 by: where none is 201, each is at most 200
abbrev pub ShallowLoadsAreLow : Type 0
ShallowLoadsAreLow = (ts : List Terminal) (i load : ℕ) → IsShallow ts → slice_get (loads_of ts) i ≡ Some load → load ≤ 200

-- a front of shallow terminals is shallow, though its last terminal has lost the one behind it
abbrev pub FrontsAreShallow : Type 0
FrontsAreShallow = (ts : List Terminal) (n : ℕ) → IsShallow ts → IsShallow (take n ts)

-- in shallow terminals no more than 200 pairs of square brackets follow one another
abbrev pub ShallowHasFewBrackets : Type 0
ShallowHasFewBrackets = (ts : List Terminal) → IsShallow ts → HasFewBrackets ts
