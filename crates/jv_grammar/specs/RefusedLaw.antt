-- The terminal at which the reader of files refuses is the one at which the terminals cease to begin a file.
use Rattle.std.specs.Prelude.{◌≡◌, ◌-◌, ◌≤◌, ℕ, List, length, take, Err}
use Rattle.jv_tree.specs.DeclTree.{UnitTree}
use Rattle.jv_grammar.specs.declared.terminal.Terminal.{Terminal}
use Rattle.jv_grammar.specs.DeclGrammar.{Derives}
use Rattle.jv_grammar.specs.DeclBegins.{Begins}
use Rattle.jv_grammar.specs.DeclReader.{file_of}
use Rattle.jv_grammar.specs.Load.{IsShallow}
use Rattle.jv_grammar.specs.RefusedAt.{IsRefusedAt}

-- what derives begins
abbrev pub DerivedFilesBegin : Type 0
DerivedFilesBegin = (xs : List Terminal) (u : UnitTree) → Derives xs u → Begins xs

-- fronts of what begins begin
abbrev pub FrontsBegin : Type 0
FrontsBegin = (xs : List Terminal) (j : ℕ) → IsShallow xs → Begins xs → Begins (take j xs)

-- where readers that may nest 400 levels deep refuse shallow terminals, there they cease to begin a file
abbrev pub RefusedFilesAreRefusedThere : Type 0
RefusedFilesAreRefusedThere = (n : ℕ) (xs zs : List Terminal) → IsShallow xs → 400 ≤ n → file_of n xs ≡ Err zs → (length zs ≤ length xs) × IsRefusedAt xs (length xs - length zs)

-- terminals are refused at one place at most
abbrev pub RefusedPlaceIsOne : Type 0
RefusedPlaceIsOne = (xs : List Terminal) (i j : ℕ) → IsRefusedAt xs i → IsRefusedAt xs j → i ≡ j
