-- The grammar of statements. `DerivesX s xs ys` says that X derives the terminals of xs up to ys, with the tree s; ys are those that
-- stand behind it.
use Rattle.std.specs.Prelude.{◌≡◌, ℕ, true, false, List, [], ◌∷◌, Option, Some, None}
use Rattle.jv_tree.specs.declared.name.Ident.{Ident as Identifier}
use Rattle.jv_tree.specs.TypeTree.{TypeTree}
use Rattle.jv_tree.specs.ExprTree as t
use Rattle.jv_tree.specs.ExprTree.{ExprTree, ExprTrees, InitTree}
use Rattle.jv_tree.specs.StmtTree as s
use Rattle.jv_tree.specs.StmtTree.{VarTree, StmtTree, StmtKindTree, StmtTrees}
use Rattle.jv_grammar.specs.declared.terminal.Terminal.{Terminal}
use Rattle.jv_grammar.specs.declared.terminal.Terminal.TheVariants.{Ident, Keyword, Punct}
use Rattle.jv_grammar.specs.declared.form.Form.{Form}
use Rattle.jv_grammar.specs.declared.form.Form.TheVariants.{Effect}
use Rattle.jv_grammar.specs.Marks.{paren_open, paren_close, brace_open, brace_close, semicolon, comma, equals_sign, word_break, word_continue, word_do, word_else, word_final, word_for, word_if, word_return, word_while}
use Rattle.jv_grammar.specs.TypeGrammar.{starts_word, DerivesTy}
use Rattle.jv_grammar.specs.ExprGrammar.{at_of, DerivesExpr, DerivesInit}

-- an `if` with what stands behind its `else`: a further `if` there is one more condition of the same tree
abbrev pub if_else_kind : ExprTree → StmtTree → StmtTree → StmtKindTree
if_else_kind e x (s.stmt at (s.if_else bs y)) = s.if_else (s.branches e x bs) y
if_else_kind e x y = s.if_else (s.branches e x s.no_branches) (s.otherwise y)

-- effects as statements, which is what a `for` begins with
abbrev pub effect_stmts : ExprTrees → StmtTrees
effect_stmts t.no_exprs = s.no_stmts
effect_stmts (t.exprs e es) = s.stmts (s.stmt (at_of e) (s.effect e)) (effect_stmts es)

-- Id ["=" init]
pub data DerivesVar : VarTree → List Terminal → List Terminal → Type 0 where
  var_alone : {i : Identifier} {ys : List Terminal} → DerivesVar (record { name = i; init = None }) (Ident i ∷ ys) ys
  var_init : {i : Identifier} {x : InitTree} {p : ℕ} {xs ys : List Terminal}
      → DerivesInit x xs ys → DerivesVar (record { name = i; init = Some x }) (Ident i ∷ Punct p equals_sign ∷ xs) ys

-- vars = Id ["=" init] {"," Id ["=" init]}
pub data DerivesVars : List VarTree → List Terminal → List Terminal → Type 0 where
  vars_one : {v : VarTree} {xs ys : List Terminal} → DerivesVar v xs ys → DerivesVars (v ∷ []) xs ys
  vars_more : {v : VarTree} {vs : List VarTree} {p : ℕ} {xs zs ys : List Terminal}
      → DerivesVar v xs (Punct p comma ∷ zs) → DerivesVars vs zs ys → DerivesVars (v ∷ vs) xs ys

-- ["final"] ty vars
pub data DerivesLocal : StmtTree → List Terminal → List Terminal → Type 0 where
  local_vars : {r : TypeTree} {vs : List VarTree} {xs zs ys : List Terminal}
      → DerivesTy r xs zs → DerivesVars vs zs ys → DerivesLocal (s.stmt r.at (s.local false r vs)) xs ys
  local_final : {r : TypeTree} {vs : List VarTree} {p : ℕ} {xs zs ys : List Terminal}
      → DerivesTy r xs zs → DerivesVars vs zs ys → DerivesLocal (s.stmt p (s.local true r vs)) (Keyword p word_final ∷ xs) ys

-- effects = effect {"," effect}
pub data DerivesEffects : ExprTrees → List Terminal → List Terminal → Type 0 where
  effects_one : {e : ExprTree} {xs ys : List Terminal} → DerivesExpr Effect e xs ys → DerivesEffects (t.exprs e t.no_exprs) xs ys
  effects_more : {e : ExprTree} {es : ExprTrees} {p : ℕ} {xs zs ys : List Terminal}
      → DerivesExpr Effect e xs (Punct p comma ∷ zs) → DerivesEffects es zs ys → DerivesEffects (t.exprs e es) xs ys

-- [finit], where finit = ["final"] ty vars | effects
pub data DerivesFirst : StmtTrees → List Terminal → List Terminal → Type 0 where
  first_none : {ys : List Terminal} → DerivesFirst s.no_stmts ys ys
  first_local : {x : StmtTree} {xs ys : List Terminal} → DerivesLocal x xs ys → DerivesFirst (s.stmts x s.no_stmts) xs ys
  first_effects : {es : ExprTrees} {xs ys : List Terminal} → DerivesEffects es xs ys → DerivesFirst (effect_stmts es) xs ys

-- [expr]
pub data DerivesOptional : Option ExprTree → List Terminal → List Terminal → Type 0 where
  optional_none : {ys : List Terminal} → DerivesOptional None ys ys
  optional_some : {f : Form} {e : ExprTree} {xs ys : List Terminal} → DerivesExpr f e xs ys → DerivesOptional (Some e) xs ys

-- [effects]
pub data DerivesUpdates : ExprTrees → List Terminal → List Terminal → Type 0 where
  updates_none : {ys : List Terminal} → DerivesUpdates t.no_exprs ys ys
  updates_some : {es : ExprTrees} {xs ys : List Terminal} → DerivesEffects es xs ys → DerivesUpdates es xs ys

mutual
  -- block = "{" {bstmt} "}"; the number is where it starts
  pub data DerivesBlock : ℕ → StmtTrees → List Terminal → List Terminal → Type 0 where
    block : {ss : StmtTrees} {p q : ℕ} {xs ys : List Terminal}
        → DerivesBstmts ss xs (Punct q brace_close ∷ ys) → DerivesBlock p ss (Punct p brace_open ∷ xs) ys

  -- {bstmt}
  pub data DerivesBstmts : StmtTrees → List Terminal → List Terminal → Type 0 where
    bstmts_none : {ys : List Terminal} → DerivesBstmts s.no_stmts ys ys
    bstmts_more : {x : StmtTree} {ss : StmtTrees} {xs zs ys : List Terminal}
        → DerivesBstmt x xs zs → DerivesBstmts ss zs ys → DerivesBstmts (s.stmts x ss) xs ys

  -- bstmt = ["final"] ty vars ";" | stmt
  pub data DerivesBstmt : StmtTree → List Terminal → List Terminal → Type 0 where
    bstmt_local : {x : StmtTree} {p : ℕ} {xs ys : List Terminal} → DerivesLocal x xs (Punct p semicolon ∷ ys) → DerivesBstmt x xs ys
    bstmt_stmt : {x : StmtTree} {xs ys : List Terminal} → DerivesStmt x xs ys → DerivesBstmt x xs ys

  -- stmt = block | ";" | effect ";" | "if" "(" expr ")" stmt ["else" stmt]
  --      | "while" "(" expr ")" stmt | "do" stmt "while" "(" expr ")" ";"
  --      | "for" "(" [finit] ";" [expr] ";" [effects] ")" stmt
  --      | "return" [expr] ";" | "break" ";" | "continue" ";"
  -- An `else` belongs to the nearest `if`: none stands behind an `if` that has none.
  pub data DerivesStmt : StmtTree → List Terminal → List Terminal → Type 0 where
    stmt_block : {ss : StmtTrees} {p : ℕ} {xs ys : List Terminal} → DerivesBlock p ss xs ys → DerivesStmt (s.stmt p (s.block ss)) xs ys
    stmt_empty : {p : ℕ} {ys : List Terminal} → DerivesStmt (s.stmt p s.empty) (Punct p semicolon ∷ ys) ys
    stmt_effect : {e : ExprTree} {p : ℕ} {xs ys : List Terminal}
        → DerivesExpr Effect e xs (Punct p semicolon ∷ ys) → DerivesStmt (s.stmt (at_of e) (s.effect e)) xs ys
    stmt_if : {f : Form} {e : ExprTree} {x : StmtTree} {p q r : ℕ} {xs zs ys : List Terminal}
        → DerivesExpr f e xs (Punct r paren_close ∷ zs) → DerivesStmt x zs ys → starts_word word_else ys ≡ false
        → DerivesStmt (s.stmt p (s.if_else (s.branches e x s.no_branches) s.no_else)) (Keyword p word_if ∷ Punct q paren_open ∷ xs) ys
    stmt_if_else : {f : Form} {e : ExprTree} {x y : StmtTree} {p q r u : ℕ} {xs zs ws ys : List Terminal}
        → DerivesExpr f e xs (Punct r paren_close ∷ zs) → DerivesStmt x zs (Keyword u word_else ∷ ws) → DerivesStmt y ws ys
        → DerivesStmt (s.stmt p (if_else_kind e x y)) (Keyword p word_if ∷ Punct q paren_open ∷ xs) ys
    stmt_while : {f : Form} {e : ExprTree} {x : StmtTree} {p q r : ℕ} {xs zs ys : List Terminal}
        → DerivesExpr f e xs (Punct r paren_close ∷ zs) → DerivesStmt x zs ys
        → DerivesStmt (s.stmt p (s.while_loop e x)) (Keyword p word_while ∷ Punct q paren_open ∷ xs) ys
    stmt_do : {f : Form} {e : ExprTree} {x : StmtTree} {p q r u v : ℕ} {xs zs ys : List Terminal}
        → DerivesStmt x xs (Keyword u word_while ∷ Punct q paren_open ∷ zs)
        → DerivesExpr f e zs (Punct r paren_close ∷ Punct v semicolon ∷ ys)
        → DerivesStmt (s.stmt p (s.do_loop x e)) (Keyword p word_do ∷ xs) ys
    stmt_for : {ss : StmtTrees} {c : Option ExprTree} {es : ExprTrees} {x : StmtTree} {p q r u v : ℕ} {xs zs ws vs ys : List Terminal}
        → DerivesFirst ss xs (Punct u semicolon ∷ zs) → DerivesOptional c zs (Punct v semicolon ∷ ws)
        → DerivesUpdates es ws (Punct r paren_close ∷ vs) → DerivesStmt x vs ys
        → DerivesStmt (s.stmt p (s.for_loop ss c es x)) (Keyword p word_for ∷ Punct q paren_open ∷ xs) ys
    stmt_return : {c : Option ExprTree} {p q : ℕ} {xs ys : List Terminal}
        → DerivesOptional c xs (Punct q semicolon ∷ ys) → DerivesStmt (s.stmt p (s.return c)) (Keyword p word_return ∷ xs) ys
    stmt_break : {p q : ℕ} {ys : List Terminal} → DerivesStmt (s.stmt p s.break) (Keyword p word_break ∷ Punct q semicolon ∷ ys) ys
    stmt_continue : {p q : ℕ} {ys : List Terminal} → DerivesStmt (s.stmt p s.continue) (Keyword p word_continue ∷ Punct q semicolon ∷ ys) ys
