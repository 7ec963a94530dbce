-- Terminals, and which file they derive.
use Rattle.std.specs.Prelude.{ℕ, Bool, true, false, List, [], ◌∷◌, ◌++◌, None, Some}
use Rattle.jv_tree.specs.declared.name.Ident.{Ident as Identifier}
use Rattle.jv_tree.specs.TypeTree.{TypeTree, void}
use Rattle.jv_tree.specs.ExprTree as e
use Rattle.jv_tree.specs.StmtTree as s
use Rattle.jv_tree.specs.StmtTree.{VarTree}
use Rattle.jv_tree.specs.DeclTree as t
use Rattle.jv_tree.specs.DeclTree.{MemberTrees, UnitTree}
use Rattle.jv_grammar.specs.declared.terminal.Terminal.{Terminal}
use Rattle.jv_grammar.specs.declared.terminal.Terminal.TheVariants.{Ident, Keyword, Punct}
use Rattle.jv_grammar.specs.Marks.{paren_open, paren_close, brace_open, brace_close, bracket_open, bracket_close, semicolon, comma, dot, star, equals_sign, word_class, word_default, word_extends, word_final, word_implements, word_import, word_int, word_interface, word_package, word_static, word_super, word_void}
use Rattle.jv_grammar.specs.ExprExample.{name_at, int_at}
use Rattle.jv_grammar.specs.DeclGrammar.{Derives}

-- `public`
abbrev pub word_public : ℕ
word_public = 34

-- the terminals derive no file
abbrev pub IsNoFile : List Terminal → Type 0
IsNoFile xs = (u : UnitTree) → Derives xs u → ⊥

-- `class a { .. }` and `interface a { .. }`, with marks at p, and their trees
abbrev pub in_class : Identifier → ℕ → List Terminal → List Terminal
in_class a p xs = Keyword p word_class ∷ Ident a ∷ Punct p brace_open ∷ (xs ++ Punct p brace_close ∷ [])

-- `interface a { .. }`, with marks at p
abbrev pub in_interface : Identifier → ℕ → List Terminal → List Terminal
in_interface a p xs = Keyword p word_interface ∷ Ident a ∷ Punct p brace_open ∷ (xs ++ Punct p brace_close ∷ [])

-- the tree of a file with nothing but a class a, or an interface a where the flag says so, with these members
abbrev pub file_with : Bool → Identifier → MemberTrees → UnitTree
file_with i a ms = record { package_name = None; imports = []; types = t.type_decl a [] i [] [] ms ∷ [] }

-- `()` with the mark at p, and a variable without an initializer
abbrev pub parens : ℕ → List Terminal
parens p = Punct p paren_open ∷ Punct p paren_close ∷ []

-- a variable without an initializer
abbrev pub var_alone : Identifier → VarTree
var_alone i = record { name = i; init = None }

-- the result `void` at a place
abbrev pub void_at : ℕ → TypeTree
void_at at = record { at = at; base = void; dims = 0 }

-- For identifiers a, b and c, marks at p, and keywords at q:
pub record FilesAreToldApart (a b c : Identifier) (p q : ℕ) : Type 0 where
  -- a file may be empty
  pub empty : Derives [] (record { package_name = None; imports = []; types = [] })
  -- `package a.b; import b; import a.b.*; ;`
  pub imports : Derives
      (Keyword q word_package ∷ Ident a ∷ Punct p dot ∷ Ident b ∷ Punct p semicolon ∷ Keyword q word_import ∷ Ident b ∷ Punct p semicolon
      ∷ Keyword q word_import ∷ Ident a ∷ Punct p dot ∷ Ident b ∷ Punct p dot ∷ Punct p star ∷ Punct p semicolon ∷ Punct p semicolon ∷ [])
      (record { package_name = Some (a ∷ b ∷ []); imports = record { name = b ∷ []; all = false; is_static = false } ∷ record { name = a ∷ b ∷ []; all = true; is_static = false } ∷ []; types = [] })
  -- `import a.*.b;`, and an import behind a class, are nothing
  pub no_name_behind_star : IsNoFile (Keyword q word_import ∷ Ident a ∷ Punct p dot ∷ Punct p star ∷ Punct p dot ∷ Ident b ∷ Punct p semicolon ∷ [])
  pub no_import_behind : IsNoFile (in_class a p [] ++ Keyword q word_import ∷ Ident b ∷ Punct p semicolon ∷ [])
  -- `import static a.b; import static a.*;`
  pub static_imports : Derives
      (Keyword q word_import ∷ Keyword q word_static ∷ Ident a ∷ Punct p dot ∷ Ident b ∷ Punct p semicolon
      ∷ Keyword q word_import ∷ Keyword q word_static ∷ Ident a ∷ Punct p dot ∷ Punct p star ∷ Punct p semicolon ∷ [])
      (record { package_name = None; imports = record { name = a ∷ b ∷ []; all = false; is_static = true } ∷ record { name = a ∷ []; all = true; is_static = true } ∷ []; types = [] })
  -- `import static a;` and `import static static a.b;` are nothing
  pub no_static_import_of_one_name : IsNoFile (Keyword q word_import ∷ Keyword q word_static ∷ Ident a ∷ Punct p semicolon ∷ [])
  pub no_second_static : IsNoFile (Keyword q word_import ∷ Keyword q word_static ∷ Keyword q word_static ∷ Ident a ∷ Punct p dot ∷ Ident b ∷ Punct p semicolon ∷ [])
  -- `public final class a extends b implements c, b.c {}`
  pub header : Derives
      (Keyword q word_public ∷ Keyword q word_final ∷ Keyword q word_class ∷ Ident a ∷ Keyword q word_extends ∷ Ident b
      ∷ Keyword q word_implements ∷ Ident c ∷ Punct p comma ∷ Ident b ∷ Punct p dot ∷ Ident c ∷ Punct p brace_open ∷ Punct p brace_close ∷ [])
      (record { package_name = None; imports = []; types = t.type_decl a (word_public ∷ word_final ∷ []) false ((b ∷ []) ∷ []) ((c ∷ []) ∷ (b ∷ c ∷ []) ∷ []) t.no_members ∷ [] })
  -- an interface may extend two names, a class may not
  pub two_parents : Derives
      (Keyword q word_interface ∷ Ident a ∷ Keyword q word_extends ∷ Ident b ∷ Punct p comma ∷ Ident c ∷ Punct p brace_open ∷ Punct p brace_close ∷ [])
      (record { package_name = None; imports = []; types = t.type_decl a [] true ((b ∷ []) ∷ (c ∷ []) ∷ []) [] t.no_members ∷ [] })
  pub one_parent : IsNoFile (Keyword q word_class ∷ Ident a ∷ Keyword q word_extends ∷ Ident b ∷ Punct p comma ∷ Ident c ∷ Punct p brace_open ∷ Punct p brace_close ∷ [])
  -- `public` stands in front of something
  pub no_modifiers_alone : IsNoFile (Keyword q word_public ∷ Punct p semicolon ∷ [])
  -- `int b, c; ;` are fields, and `int b` without `;` is nothing
  pub fields : Derives
      (in_class a p (Keyword q word_int ∷ Ident b ∷ Punct p comma ∷ Ident c ∷ Punct p semicolon ∷ Punct p semicolon ∷ []))
      (file_with false a (t.members (t.field [] (int_at q 0) (var_alone b ∷ var_alone c ∷ [])) t.no_members))
  pub no_open_field : IsNoFile (in_class a p (Keyword q word_int ∷ Ident b ∷ []))
  -- `void b(final int c) {}` and `int[] b();` are methods
  pub block_behind : Derives
      (in_class a p (Keyword q word_void ∷ Ident b ∷ Punct p paren_open ∷ Keyword q word_final ∷ Keyword q word_int ∷ Ident c ∷ Punct p paren_close ∷ Punct p brace_open ∷ Punct p brace_close ∷ []))
      (file_with false a (t.members
      (t.method (record { mods = []; result = void_at q; name = b; params = record { is_final = true; ty = int_at q 0; name = c } ∷ []; body = Some s.no_stmts })) t.no_members))
  pub no_block_behind : Derives
      (in_class a p (Keyword q word_int ∷ Punct p bracket_open ∷ Punct p bracket_close ∷ Ident b ∷ (parens p ++ Punct p semicolon ∷ [])))
      (file_with false a (t.members (t.method (record { mods = []; result = int_at q 1; name = b; params = []; body = None })) t.no_members))
  -- `a() { super(); }` begins with a call, `a() { super.b(); }` does not
  pub calls_super : Derives
      (in_class a p (Ident a ∷ (parens p ++ Punct p brace_open ∷ Keyword q word_super ∷ (parens p ++ Punct p semicolon ∷ Punct p brace_close ∷ []))))
      (file_with false a (t.members (t.ctor (record { mods = []; name = a; params = []; call = Some (q, e.no_exprs); body = s.no_stmts })) t.no_members))
  pub calls_method_of_super : Derives
      (in_class a p (Ident a ∷ (parens p ++ Punct p brace_open ∷ Keyword q word_super ∷ Punct p dot ∷ Ident b ∷ (parens p ++ Punct p semicolon ∷ Punct p brace_close ∷ []))))
      (file_with false a (t.members
      (t.ctor (record { mods = []; name = a; params = []; call = None; body = s.stmts (s.stmt q (s.effect (e.expr q (e.call e.super b e.no_exprs)))) s.no_stmts })) t.no_members))
  -- a call of `super` comes first
  pub no_late_call : IsNoFile (in_class a p (Ident a ∷ (parens p ++ Punct p brace_open ∷ Punct p semicolon ∷ Keyword q word_super ∷ (parens p ++ Punct p semicolon ∷ Punct p brace_close ∷ []))))
  -- `interface a { int b = c; void b(); class c {} }`
  pub constants : Derives
      (in_interface a p (Keyword q word_int ∷ Ident b ∷ Punct p equals_sign ∷ Ident c ∷ Punct p semicolon
      ∷ Keyword q word_void ∷ Ident b ∷ (parens p ++ Punct p semicolon ∷ in_class c q [])))
      (file_with true a (t.members (t.field [] (int_at q 0) (record { name = b; init = Some (e.one (name_at c.at c)) } ∷ []))
      (t.members (t.method (record { mods = []; result = void_at q; name = b; params = []; body = None }))
      (t.members (t.nested (t.type_decl c [] false [] [] t.no_members)) t.no_members))))
  -- `interface a { default void b() {} static int c(); }`
  pub interface_methods : Derives
      (in_interface a p (Keyword q word_default ∷ Keyword q word_void ∷ Ident b ∷ (parens p ++ Punct p brace_open ∷ Punct p brace_close
      ∷ Keyword q word_static ∷ Keyword q word_int ∷ Ident c ∷ (parens p ++ Punct p semicolon ∷ []))))
      (file_with true a (t.members (t.method (record { mods = word_default ∷ []; result = void_at q; name = b; params = []; body = Some s.no_stmts }))
      (t.members (t.method (record { mods = word_static ∷ []; result = int_at q 0; name = c; params = []; body = None })) t.no_members)))
  -- behind the parameters of a method stands no value, and `default` is no name
  pub no_value_behind : IsNoFile (in_interface a p (Keyword q word_int ∷ Ident b ∷ (parens p ++ Punct p equals_sign ∷ Ident c ∷ Punct p semicolon ∷ [])))
  pub no_default_name : IsNoFile (Keyword q word_class ∷ Keyword q word_default ∷ Punct p brace_open ∷ Punct p brace_close ∷ [])
  -- an interface has no fields without initializers, and no constructors
  pub no_plain_constant : IsNoFile (in_interface a p (Keyword q word_int ∷ Ident b ∷ Punct p semicolon ∷ []))
  pub no_constructor : IsNoFile (in_interface a p (Ident a ∷ (parens p ++ Punct p semicolon ∷ [])))
  pub no_constructor_with_body : IsNoFile (in_interface a p (Ident a ∷ (parens p ++ Punct p brace_open ∷ Punct p brace_close ∷ [])))
  -- nothing is left behind a file
  pub no_brace_behind : IsNoFile (in_class a p (Punct p brace_close ∷ []))
