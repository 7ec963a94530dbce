-- Reading an identifier where none stands.
use Rattle.std.proofs.Common.{◌≡◌, false, true≢false, List, [], ◌∷◌, refl, Err}
use Rattle.jv_grammar.specs.declared.terminal.Terminal.{Terminal}
use Rattle.jv_grammar.specs.declared.terminal.Terminal.TheVariants.{Ident, Keyword, Literal, Minimum, MinimumLong, Punct}
use Rattle.jv_grammar.specs.Reader.{starts_ident}
use Rattle.jv_grammar.specs.DeclReader.{ident_of}

pub no_ident : (xs : List Terminal) → starts_ident xs ≡ false → ident_of xs ≡ Err xs
no_ident [] h = refl
no_ident (Ident i ∷ xs) h = absurd (true≢false h)
no_ident (Keyword p k ∷ xs) h = refl
no_ident (Literal p l ∷ xs) h = refl
no_ident (Minimum p ∷ xs) h = refl
no_ident (MinimumLong p ∷ xs) h = refl
no_ident (Punct p o ∷ xs) h = refl
