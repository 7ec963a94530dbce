-- The identifiers among terminals: how many they are and which numbers they have, and that a tree that derives has as many and no others.
use Rattle.std.specs.Prelude.{◌≡◌, ℕ, suc, ◌≤◌, List, [], ◌∷◌, length}
use Rattle.jv_tree.specs.DeclTree.{UnitTree}
use Rattle.jv_tree.specs.Identifiers.{idents_unit}
use Rattle.jv_tree.specs.Numbered.{IsNumberedIdent, IsNumbered}
use Rattle.jv_grammar.specs.declared.terminal.Terminal.{Terminal}
use Rattle.jv_grammar.specs.declared.terminal.Terminal.TheVariants.{Ident, Keyword, Literal, Minimum, MinimumLong, Punct}
use Rattle.jv_grammar.specs.DeclGrammar.{Derives}

-- how many of the terminals are identifiers
abbrev pub idents_terminals : List Terminal → ℕ
idents_terminals [] = 0
idents_terminals (Ident i ∷ xs) = suc (idents_terminals xs)
idents_terminals (Keyword p k ∷ xs) = idents_terminals xs
idents_terminals (Literal p l ∷ xs) = idents_terminals xs
idents_terminals (Minimum p ∷ xs) = idents_terminals xs
idents_terminals (MinimumLong p ∷ xs) = idents_terminals xs
idents_terminals (Punct p o ∷ xs) = idents_terminals xs

-- a tree that derives has as many identifiers as there are among the terminals
abbrev pub IdentifiersAreCounted : Type 0
IdentifiersAreCounted = (xs : List Terminal) (u : UnitTree) → Derives xs u → idents_unit u ≡ idents_terminals xs

-- so it has at most as many identifiers as there are terminals
abbrev pub IdentifiersAreTerminals : Type 0
IdentifiersAreTerminals = (xs : List Terminal) (u : UnitTree) → Derives xs u → idents_unit u ≤ length xs

-- each identifier among the terminals has the number of one of n names
abbrev pub AreNumberedTerminals : ℕ → List Terminal → Type 0
AreNumberedTerminals n [] = Unit {0}
AreNumberedTerminals n (Ident i ∷ xs) = IsNumberedIdent n i × AreNumberedTerminals n xs
AreNumberedTerminals n (Keyword p k ∷ xs) = AreNumberedTerminals n xs
AreNumberedTerminals n (Literal p l ∷ xs) = AreNumberedTerminals n xs
AreNumberedTerminals n (Minimum p ∷ xs) = AreNumberedTerminals n xs
AreNumberedTerminals n (MinimumLong p ∷ xs) = AreNumberedTerminals n xs
AreNumberedTerminals n (Punct p o ∷ xs) = AreNumberedTerminals n xs

-- then each identifier of a tree that derives has one
abbrev pub IdentifiersAreNumbered : Type 0
IdentifiersAreNumbered = (n : ℕ) (xs : List Terminal) (u : UnitTree) → Derives xs u → AreNumberedTerminals n xs → IsNumbered n u
