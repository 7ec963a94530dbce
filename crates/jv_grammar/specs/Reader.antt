-- Reading terminals: a result with the terminals behind it, or the terminals from the refused one on.
use Rattle.std.specs.Prelude.{ℕ, Bool, true, false, List, [], ◌∷◌, Result, Ok, Err, if◌then◌else◌}
use Rattle.jv_grammar.specs.declared.terminal.Terminal.{Terminal}
use Rattle.jv_grammar.specs.declared.terminal.Terminal.TheVariants.{Ident}
use Rattle.jv_grammar.specs.TypeGrammar.{starts}

-- what reading gives: a result with the terminals behind it, or the terminals from the refused one on
abbrev pub Reads : Type 0 → Type 0
Reads A = Result (A × List Terminal) (List Terminal)

-- first the one, and then the other behind it
infixl 10 ◌>>=◌
abbrev pub ◌>>=◌ : {A B : Type 0} → Result A (List Terminal) → (A → Result B (List Terminal)) → Result B (List Terminal)
(Ok x) >>= f = f x
(Err e) >>= f = Err e

-- the terminals behind the first one
abbrev pub rest_of : List Terminal → List Terminal
rest_of [] = []
rest_of (x ∷ xs) = xs

-- what is read, where the mark n stands behind it
abbrev pub closed : {A : Type 0} → ℕ → A → List Terminal → Reads A
closed n x xs = if starts n xs then Ok (x, rest_of xs) else Err xs

-- the first terminal is an identifier
abbrev pub starts_ident : List Terminal → Bool
starts_ident (Ident i ∷ xs) = true
starts_ident xs = false
