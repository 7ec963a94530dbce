-- What `parse` gives: the tree of a source's tokens, or why there is none, and what becomes of the names.
use Rattle.std.specs.Prelude.{◌≡◌, ℕ, true, List, ◌++◌, map, Result, Ok, Err}
use Rattle.std.specs.List.{Contains}
use Rattle.jv_lex.specs.declared.token.Token.{Token}
use Rattle.jv_tree.specs.declared.declaration.Unit.{Unit as File}
use Rattle.jv_tree.specs.DeclTree.{UnitTree, tree_of}
use Rattle.jv_tree.specs.Shaped.{IsShaped}
use Rattle.jv_grammar.specs.declared.terminal.Terminal.{Terminal}
use Rattle.jv_grammar.specs.DeclGrammar.{Derives}
use Rattle.jv_grammar.specs.Load.{IsFirstDeep, IsShallow}
use Rattle.jv_grammar.specs.RefusedAt.{IsRefusedAt}
use Rattle.jv_parse.specs.declared.parse_fault.ParseFault.{ParseFault}
use Rattle.jv_parse.specs.declared.parse_fault.ParseFault.TheVariants.{TooDeep, NotInGrammar, OutOfMemory}
use Rattle.jv_parse.specs.Naming.{text_of, is_identifier, terminal_of}

-- the tokens of a source as terminals, by the numbers of their texts among the names
abbrev pub terminals_of : List ℕ → List (List ℕ) → List Token → List Terminal
terminals_of source names tokens = map (terminal_of source names) tokens

-- The terminals are nowhere nested too deep, and this is the one tree that derives from them. It has the shape of the grammar.
pub record IsTreeOf (ts : List Terminal) (u : UnitTree) : Type 0 where
  pub shallow : IsShallow ts
  pub derives : Derives ts u
  pub only : (v : UnitTree) → Derives ts v → v ≡ u
  pub shaped : IsShaped u

-- the terminals are nowhere nested too deep, and no tree derives from them
pub record HasNoTree (ts : List Terminal) : Type 0 where
  pub shallow : IsShallow ts
  pub none : (u : UnitTree) → Derives ts u → ⊥

-- no tree derives from the terminals, and the one at this place is the first that is refused
abbrev pub HasNoTreeAt : List Terminal → ℕ → Type 0
HasNoTreeAt ts i = HasNoTree ts × IsRefusedAt ts i

-- What a result says of the terminals, where memory did not run out. Where no tree derives, the tokens before the refused one begin a file, and
-- with it they do not.
abbrev pub Says : List Terminal → Result File ParseFault → Type 0
Says ts (Ok u) = IsTreeOf ts (tree_of u)
Says ts (Err (TooDeep i)) = IsFirstDeep ts i
Says ts (Err (NotInGrammar i)) = HasNoTreeAt ts i
Says ts (Err OutOfMemory) = Unit {0}

-- memory did not run out
abbrev pub IsAnswered : Result File ParseFault → Type 0
IsAnswered result = result ≡ Err OutOfMemory → ⊥

-- the text is that of an identifier among the tokens
abbrev pub IsIdentifierOf : List ℕ → List Token → List ℕ → Type 0
IsIdentifierOf source tokens text = (x : Token) × Contains tokens x × (is_identifier x.kind ≡ true) × (text_of source x ≡ text)

-- the old names keep their numbers, and each one behind them is the text of an identifier among the tokens
abbrev pub AddsNames : List ℕ → List Token → List (List ℕ) → List (List ℕ) → Type 0
AddsNames source tokens old new =
    (added : List (List ℕ)) × (new ≡ old ++ added) × ((text : List ℕ) → Contains added text → IsIdentifierOf source tokens text)
