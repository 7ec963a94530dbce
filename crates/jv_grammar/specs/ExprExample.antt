-- Terminals, and which expression they derive.
use Rattle.std.specs.Prelude.{ℕ, List, [], ◌∷◌}
use Rattle.jv_tree.specs.declared.name.Ident.{Ident as Identifier}
use Rattle.jv_tree.specs.TypeTree.{TypeTree, int, named}
use Rattle.jv_tree.specs.ExprTree as t
use Rattle.jv_tree.specs.ExprTree.{ExprTree}
use Rattle.jv_grammar.specs.declared.terminal.Terminal.{Terminal}
use Rattle.jv_grammar.specs.declared.terminal.Terminal.TheVariants.{Ident, Keyword, Minimum, Punct}
use Rattle.jv_grammar.specs.declared.form.Form.{Form}
use Rattle.jv_grammar.specs.declared.form.Form.TheVariants.{Target, Effect, Other}
use Rattle.jv_grammar.specs.Marks.{paren_open, paren_close, brace_open, brace_close, bracket_open, bracket_close, comma, dot, equals_sign, minus_sign, star, word_instanceof, word_int, word_new, word_super}
use Rattle.jv_grammar.specs.ExprGrammar.{DerivesExpr, DerivesInit}

-- `+` and `!`
abbrev pub plus_sign : ℕ
plus_sign = 28

-- `!`
abbrev pub not_sign : ℕ
not_sign = 15

-- an identifier as an expression, and a type
abbrev pub name_at : ℕ → Identifier → ExprTree
name_at at i = t.expr at (t.name (i ∷ []))

-- the type `int` at a place, with so many pairs of brackets
abbrev pub int_at : ℕ → ℕ → TypeTree
int_at at n = record { at = at; base = int; dims = n }

-- the terminals derive no expression
abbrev pub IsNone : List Terminal → Type 0
IsNone xs = (f : Form) (e : ExprTree) → DerivesExpr f e xs [] → ⊥

-- For identifiers a, b and c, and marks wherever they stand:
pub record ExpressionsAreToldApart (a b c : Identifier) (p q r s u v w : ℕ) : Type 0 where
  -- `a + b - c` is one chain
  pub one_level : DerivesExpr Other
      (t.expr a.at (t.chain (name_at a.at a) (t.links p plus_sign (t.operand (name_at b.at b)) (t.links q minus_sign (t.operand (name_at c.at c)) t.no_links))))
      (Ident a ∷ Punct p plus_sign ∷ Ident b ∷ Punct q minus_sign ∷ Ident c ∷ []) []
  -- `a + b * c` has a chain in a chain
  pub two_levels : DerivesExpr Other
      (t.expr a.at (t.chain (name_at a.at a) (t.links p plus_sign (t.operand (t.expr b.at (t.chain (name_at b.at b) (t.links q star (t.operand (name_at c.at c)) t.no_links)))) t.no_links)))
      (Ident a ∷ Punct p plus_sign ∷ Ident b ∷ Punct q star ∷ Ident c ∷ []) []
  -- `(a) - b` is a difference, `(a) !b` a cast
  pub difference : DerivesExpr Other
      (t.expr p (t.chain (name_at p a) (t.links r minus_sign (t.operand (name_at b.at b)) t.no_links)))
      (Punct p paren_open ∷ Ident a ∷ Punct q paren_close ∷ Punct r minus_sign ∷ Ident b ∷ []) []
  pub cast_by_name : DerivesExpr Other
      (t.expr p (t.cast (record { at = a.at; base = named (a ∷ []); dims = 0 }) (t.expr r (t.pre r not_sign (name_at b.at b)))))
      (Punct p paren_open ∷ Ident a ∷ Punct q paren_close ∷ Punct r not_sign ∷ Ident b ∷ []) []
  -- `(int) -b` is a cast, but `(int[]) -b` is nothing
  pub cast_by_int : DerivesExpr Other
      (t.expr p (t.cast (int_at q 0) (t.expr s (t.pre s minus_sign (name_at b.at b)))))
      (Punct p paren_open ∷ Keyword q word_int ∷ Punct r paren_close ∷ Punct s minus_sign ∷ Ident b ∷ []) []
  pub no_cast_by_array : IsNone (Punct p paren_open ∷ Keyword q word_int ∷ Punct r bracket_open ∷ Punct s bracket_close ∷ Punct u paren_close ∷ Punct v minus_sign ∷ Ident b ∷ [])
  -- `2147483648` stands behind the sign `-` alone
  pub minimum : DerivesExpr Other (t.expr p (t.pre p minus_sign (t.expr q t.int))) (Punct p minus_sign ∷ Minimum q ∷ []) []
  pub no_minimum : IsNone (Minimum q ∷ [])
  pub no_minimum_behind_operand : IsNone (Ident a ∷ Punct p minus_sign ∷ Minimum q ∷ [])
  -- `a.b.c` is one name, `a.b.c()` a call on the name `a.b`
  pub longest_name : DerivesExpr Target (t.expr a.at (t.name (a ∷ b ∷ c ∷ []))) (Ident a ∷ Punct p dot ∷ Ident b ∷ Punct q dot ∷ Ident c ∷ []) []
  pub called_name : DerivesExpr Effect
      (t.expr a.at (t.call (t.on (t.expr a.at (t.name (a ∷ b ∷ [])))) c t.no_exprs))
      (Ident a ∷ Punct p dot ∷ Ident b ∷ Punct q dot ∷ Ident c ∷ Punct r paren_open ∷ Punct s paren_close ∷ []) []
  -- `super.a` is a field, `super.a()` a call
  pub super_field : DerivesExpr Target (t.expr p (t.super_field a)) (Keyword p word_super ∷ Punct q dot ∷ Ident a ∷ []) []
  pub super_call : DerivesExpr Effect
      (t.expr p (t.call t.super a t.no_exprs)) (Keyword p word_super ∷ Punct q dot ∷ Ident a ∷ Punct r paren_open ∷ Punct s paren_close ∷ []) []
  -- `a = b = c` assigns from the right, and `(a) = b` is nothing
  pub from_the_right : DerivesExpr Effect
      (t.expr a.at (t.assign p equals_sign (name_at a.at a) (t.expr b.at (t.assign q equals_sign (name_at b.at b) (name_at c.at c)))))
      (Ident a ∷ Punct p equals_sign ∷ Ident b ∷ Punct q equals_sign ∷ Ident c ∷ []) []
  pub no_target : IsNone (Punct p paren_open ∷ Ident a ∷ Punct q paren_close ∷ Punct r equals_sign ∷ Ident b ∷ [])
  -- `new int[a][b]` has two sizes, and `new int[a][][b]` is nothing
  pub two_sizes : DerivesExpr Other
      (t.expr p (t.new_array (int_at q 0) (t.exprs (name_at a.at a) (t.exprs (name_at b.at b) t.no_exprs))))
      (Keyword p word_new ∷ Keyword q word_int ∷ Punct r bracket_open ∷ Ident a ∷ Punct s bracket_close ∷ Punct u bracket_open ∷ Ident b ∷ Punct v bracket_close ∷ []) []
  pub no_size_behind_pair : IsNone
      (Keyword p word_new ∷ Keyword q word_int ∷ Punct r bracket_open ∷ Ident a ∷ Punct s bracket_close ∷ Punct u bracket_open ∷ Punct v bracket_close ∷ Punct u bracket_open ∷ Ident b ∷ Punct w bracket_close ∷ [])
  -- `a instanceof int[]` is a chain, and `a instanceof int` is nothing
  pub array_instance : DerivesExpr Other
      (t.expr a.at (t.chain (name_at a.at a) (t.links p 153 (t.of_type (int_at q 1)) t.no_links)))
      (Ident a ∷ Keyword p word_instanceof ∷ Keyword q word_int ∷ Punct r bracket_open ∷ Punct s bracket_close ∷ []) []
  pub no_bare_instance : IsNone (Ident a ∷ Keyword p word_instanceof ∷ Keyword q word_int ∷ [])
  -- `{a,}` and `{,}` are lists
  pub comma_behind : DerivesInit (t.list p (t.inits (t.one (name_at a.at a)) t.no_inits)) (Punct p brace_open ∷ Ident a ∷ Punct q comma ∷ Punct r brace_close ∷ []) []
  pub comma_alone : DerivesInit (t.list p t.no_inits) (Punct p brace_open ∷ Punct q comma ∷ Punct r brace_close ∷ []) []
