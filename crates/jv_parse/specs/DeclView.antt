-- What functions that read parts of declarations return.
use Rattle.std.specs.Prelude.{◌≡◌, ◌<◌, ℕ, List, ◌∷◌, length, Some, Ok}
use Rattle.jv_tree.specs.StmtTree.{VarTree}
use Rattle.jv_grammar.specs.declared.terminal.Terminal.{Terminal}
use Rattle.jv_grammar.specs.Marks.{equals_sign}
use Rattle.jv_grammar.specs.Reader.{Reads, ◌>>=◌, closed}
use Rattle.jv_grammar.specs.ExprReader.{below, init_of}
use Rattle.jv_grammar.specs.DeclReader.{ident_of, mods_of}

-- modifiers, as a reader's result
abbrev pub modifiers_of : List Terminal → Reads (List ℕ)
modifiers_of xs = Ok (mods_of xs)

-- the modifiers that the terminals start with are this one and those of these terminals, which are fewer
abbrev pub StartsModifiers : List Terminal → ℕ → List Terminal → Type 0
StartsModifiers xs word ys = (mods_of xs ≡ (word ∷ (mods_of ys).0, (mods_of ys).1)) × (length ys < length xs)

-- a constant of an interface: an identifier and its initializer
abbrev pub constant_of : ℕ → List Terminal → Reads VarTree
constant_of n xs = ident_of xs >>= λ i. closed equals_sign i.0 i.1 >>= λ j. init_of (below n) j.1 >>= λ r. Ok (record { name = j.0; init = Some r.0 }, r.1)
