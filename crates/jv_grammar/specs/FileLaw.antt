-- What the grammar of files implies: at most one tree derives, and the reader finds it.
use Rattle.std.specs.Prelude.{◌≡◌, ℕ, ◌≤◌, List, length, Ok, Err}
use Rattle.jv_tree.specs.DeclTree.{UnitTree}
use Rattle.jv_tree.specs.Shaped.{IsShaped}
use Rattle.jv_grammar.specs.declared.terminal.Terminal.{Terminal}
use Rattle.jv_grammar.specs.DeclGrammar.{Derives}
use Rattle.jv_grammar.specs.DeclReader.{file_of}
use Rattle.jv_grammar.specs.DeclWidth.{HasFewPairs}
use Rattle.jv_grammar.specs.Load.{IsShallow}

-- what derives is what the reader gives, where it may nest as deep as there are terminals
abbrev pub ReadersFindTrees : Type 0
ReadersFindTrees = (xs : List Terminal) (n : ℕ) (u : UnitTree) (d : Derives xs u) → length xs ≤ n → HasFewPairs d → file_of n xs ≡ Ok u

-- what the reader gives derives, and has the shape of the grammar
abbrev pub ReadTreesDerive : Type 0
ReadTreesDerive = (xs : List Terminal) (n : ℕ) (u : UnitTree) → file_of n xs ≡ Ok u → ((d : Derives xs u) × HasFewPairs d) × IsShaped u

-- where the reader refuses a terminal, nothing derives
abbrev pub RefusedFilesDeriveNothing : Type 0
RefusedFilesDeriveNothing = (xs zs : List Terminal) (n : ℕ) → length xs ≤ n → file_of n xs ≡ Err zs → (u : UnitTree) (d : Derives xs u) → HasFewPairs d → ⊥

-- two trees that derive from the same terminals are one
abbrev pub AtMostOneTreeDerives : Type 0
AtMostOneTreeDerives = (xs : List Terminal) (u v : UnitTree) (d : Derives xs u) (c : Derives xs v) → HasFewPairs d → HasFewPairs c → u ≡ v

-- what derives has the shape of the grammar
abbrev pub DerivedTreesAreShaped : Type 0
DerivedTreesAreShaped = (xs : List Terminal) (u : UnitTree) (d : Derives xs u) → HasFewPairs d → IsShaped u

-- no type that derives from shallow terminals has more than 200 pairs of brackets
abbrev pub ShallowFilesHaveFewPairs : Type 0
ShallowFilesHaveFewPairs = (xs : List Terminal) (u : UnitTree) (d : Derives xs u) → IsShallow xs → HasFewPairs d

-- so what shallow terminals derive is what the reader gives, and they derive at most one tree
abbrev pub ReadersFindShallowTrees : Type 0
ReadersFindShallowTrees = (xs : List Terminal) (n : ℕ) (u : UnitTree) → IsShallow xs → length xs ≤ n → Derives xs u → file_of n xs ≡ Ok u

-- shallow terminals derive at most one file
abbrev pub ShallowFilesDeriveOnce : Type 0
ShallowFilesDeriveOnce = (xs : List Terminal) (u v : UnitTree) → IsShallow xs → Derives xs u → Derives xs v → u ≡ v
