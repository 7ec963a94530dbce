-- Terminals, and whether they begin a file or a statement.
use Rattle.std.specs.Prelude.{ℕ, List, [], ◌∷◌}
use Rattle.jv_tree.specs.declared.name.Ident.{Ident as Identifier}
use Rattle.jv_grammar.specs.declared.terminal.Terminal.{Terminal}
use Rattle.jv_grammar.specs.declared.terminal.Terminal.TheVariants.{Ident, Keyword, Punct}
use Rattle.jv_grammar.specs.Marks.{brace_open, semicolon, equals_sign, word_class, word_int}
use Rattle.jv_grammar.specs.ExprExample.{plus_sign}
use Rattle.jv_grammar.specs.StmtBegins.{BeginsStmt}
use Rattle.jv_grammar.specs.DeclBegins.{Begins}
use Rattle.jv_grammar.specs.RefusedAt.{IsRefusedAt}

-- `class a {`, with the mark at p and the keyword at q
abbrev pub open_class : Identifier → ℕ → ℕ → List Terminal → List Terminal
open_class a p q xs = Keyword q word_class ∷ Ident a ∷ Punct p brace_open ∷ xs

-- For identifiers a and b, marks at p, and keywords at q:
pub record BeginningsAreToldApart (a b : Identifier) (p q : ℕ) : Type 0 where
  -- `class a {` begins a file: it is refused behind its last terminal
  pub open_type : IsRefusedAt (open_class a p q []) 3
  -- `class a { int` begins one, and with `=` it does not
  pub open_field : Begins (open_class a p q (Keyword q word_int ∷ []))
  pub no_name : Begins (open_class a p q (Keyword q word_int ∷ Punct p equals_sign ∷ [])) → ⊥
  -- `a + b` begins a statement, though it is no effect, and with `;` it does not
  pub open_effect : BeginsStmt (Ident a ∷ Punct p plus_sign ∷ Ident b ∷ [])
  pub no_effect : BeginsStmt (Ident a ∷ Punct p plus_sign ∷ Ident b ∷ Punct p semicolon ∷ []) → ⊥
