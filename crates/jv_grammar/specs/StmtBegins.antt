-- What begins a statement, a block or local variables. `BeginsX xs` says that the terminals of xs, all of them, begin X (see
-- `TypeBegins`). An effect is begun by any begun expression: whether it is one is asked where it derives.
use Rattle.std.specs.Prelude.{ℕ, List, [], ◌∷◌, Option}
use Rattle.jv_tree.specs.declared.name.Ident.{Ident as Identifier}
use Rattle.jv_tree.specs.TypeTree.{TypeTree}
use Rattle.jv_tree.specs.ExprTree.{ExprTree, ExprTrees}
use Rattle.jv_tree.specs.StmtTree.{VarTree, StmtTree, StmtTrees}
use Rattle.jv_grammar.specs.declared.terminal.Terminal.{Terminal}
use Rattle.jv_grammar.specs.declared.terminal.Terminal.TheVariants.{Ident, Keyword, Punct}
use Rattle.jv_grammar.specs.declared.form.Form.{Form}
use Rattle.jv_grammar.specs.declared.form.Form.TheVariants.{Effect}
use Rattle.jv_grammar.specs.Marks.{paren_open, paren_close, brace_open, semicolon, comma, equals_sign, word_break, word_continue, word_do, word_else, word_final, word_for, word_if, word_return, word_while}
use Rattle.jv_grammar.specs.TypeGrammar.{DerivesTy}
use Rattle.jv_grammar.specs.ExprGrammar.{DerivesExpr}
use Rattle.jv_grammar.specs.StmtGrammar.{DerivesVar, DerivesVars, DerivesLocal, DerivesEffects, DerivesFirst, DerivesOptional, DerivesUpdates, DerivesBlock, DerivesBstmts, DerivesBstmt, DerivesStmt}
use Rattle.jv_grammar.specs.TypeBegins.{BeginsTy}
use Rattle.jv_grammar.specs.ExprBegins.{BeginsExpr, BeginsInit}

-- Id ["=" init]
pub data BeginsVar : List Terminal → Type 0 where
  begun_var_none : BeginsVar []
  begun_var_init : {i : Identifier} {p : ℕ} {xs : List Terminal} → BeginsInit xs → BeginsVar (Ident i ∷ Punct p equals_sign ∷ xs)
  begun_var_whole : {v : VarTree} {xs : List Terminal} → DerivesVar v xs [] → BeginsVar xs

-- vars = Id ["=" init] {"," Id ["=" init]}
pub data BeginsVars : List Terminal → Type 0 where
  begun_vars_none : BeginsVars []
  begun_vars_one : {xs : List Terminal} → BeginsVar xs → BeginsVars xs
  begun_vars_more : {v : VarTree} {p : ℕ} {xs zs : List Terminal} → DerivesVar v xs (Punct p comma ∷ zs) → BeginsVars zs → BeginsVars xs
  begun_vars_whole : {vs : List VarTree} {xs : List Terminal} → DerivesVars vs xs [] → BeginsVars xs

-- ["final"] ty vars
pub data BeginsLocal : List Terminal → Type 0 where
  begun_local_none : BeginsLocal []
  begun_local_ty : {xs : List Terminal} → BeginsTy xs → BeginsLocal xs
  begun_local_vars : {r : TypeTree} {xs zs : List Terminal} → DerivesTy r xs zs → BeginsVars zs → BeginsLocal xs
  begun_local_final_ty : {p : ℕ} {xs : List Terminal} → BeginsTy xs → BeginsLocal (Keyword p word_final ∷ xs)
  begun_local_final_vars : {r : TypeTree} {p : ℕ} {xs zs : List Terminal}
      → DerivesTy r xs zs → BeginsVars zs → BeginsLocal (Keyword p word_final ∷ xs)
  begun_local_whole : {x : StmtTree} {xs : List Terminal} → DerivesLocal x xs [] → BeginsLocal xs

-- effects = effect {"," effect}
pub data BeginsEffects : List Terminal → Type 0 where
  begun_effects_none : BeginsEffects []
  begun_effects_one : {xs : List Terminal} → BeginsExpr xs → BeginsEffects xs
  begun_effects_more : {e : ExprTree} {p : ℕ} {xs zs : List Terminal}
      → DerivesExpr Effect e xs (Punct p comma ∷ zs) → BeginsEffects zs → BeginsEffects xs
  begun_effects_whole : {es : ExprTrees} {xs : List Terminal} → DerivesEffects es xs [] → BeginsEffects xs

-- [finit], where finit = ["final"] ty vars | effects
pub data BeginsFirst : List Terminal → Type 0 where
  begun_first_none : BeginsFirst []
  begun_first_local : {xs : List Terminal} → BeginsLocal xs → BeginsFirst xs
  begun_first_effects : {xs : List Terminal} → BeginsEffects xs → BeginsFirst xs
  begun_first_whole : {ss : StmtTrees} {xs : List Terminal} → DerivesFirst ss xs [] → BeginsFirst xs

-- [expr]
pub data BeginsOptional : List Terminal → Type 0 where
  begun_optional_none : BeginsOptional []
  begun_optional_some : {xs : List Terminal} → BeginsExpr xs → BeginsOptional xs
  begun_optional_whole : {c : Option ExprTree} {xs : List Terminal} → DerivesOptional c xs [] → BeginsOptional xs

-- [effects]
pub data BeginsUpdates : List Terminal → Type 0 where
  begun_updates_none : BeginsUpdates []
  begun_updates_some : {xs : List Terminal} → BeginsEffects xs → BeginsUpdates xs
  begun_updates_whole : {es : ExprTrees} {xs : List Terminal} → DerivesUpdates es xs [] → BeginsUpdates xs

mutual
  -- block = "{" {bstmt} "}"
  pub data BeginsBlock : List Terminal → Type 0 where
    begun_block_none : BeginsBlock []
    begun_block_some : {p : ℕ} {xs : List Terminal} → BeginsBstmts xs → BeginsBlock (Punct p brace_open ∷ xs)
    begun_block_whole : {p : ℕ} {ss : StmtTrees} {xs : List Terminal} → DerivesBlock p ss xs [] → BeginsBlock xs

  -- {bstmt}
  pub data BeginsBstmts : List Terminal → Type 0 where
    begun_bstmts_none : BeginsBstmts []
    begun_bstmts_one : {xs : List Terminal} → BeginsBstmt xs → BeginsBstmts xs
    begun_bstmts_more : {x : StmtTree} {xs zs : List Terminal} → DerivesBstmt x xs zs → BeginsBstmts zs → BeginsBstmts xs
    begun_bstmts_whole : {ss : StmtTrees} {xs : List Terminal} → DerivesBstmts ss xs [] → BeginsBstmts xs

  -- bstmt = ["final"] ty vars ";" | stmt
  pub data BeginsBstmt : List Terminal → Type 0 where
    begun_bstmt_none : BeginsBstmt []
    begun_bstmt_local : {xs : List Terminal} → BeginsLocal xs → BeginsBstmt xs
    begun_bstmt_stmt : {xs : List Terminal} → BeginsStmt xs → BeginsBstmt xs
    begun_bstmt_whole : {x : StmtTree} {xs : List Terminal} → DerivesBstmt x xs [] → BeginsBstmt xs

  -- stmt = block | ";" | effect ";" | "if" "(" expr ")" stmt ["else" stmt]
  --      | "while" "(" expr ")" stmt | "do" stmt "while" "(" expr ")" ";"
  --      | "for" "(" [finit] ";" [expr] ";" [effects] ")" stmt
  --      | "return" [expr] ";" | "break" ";" | "continue" ";"
  pub data BeginsStmt : List Terminal → Type 0 where
    begun_stmt_none : BeginsStmt []
    begun_stmt_block : {xs : List Terminal} → BeginsBlock xs → BeginsStmt xs
    begun_stmt_effect : {xs : List Terminal} → BeginsExpr xs → BeginsStmt xs
    begun_stmt_if : {p : ℕ} → BeginsStmt (Keyword p word_if ∷ [])
    begun_stmt_if_test : {p q : ℕ} {xs : List Terminal} → BeginsExpr xs → BeginsStmt (Keyword p word_if ∷ Punct q paren_open ∷ xs)
    begun_stmt_if_then : {f : Form} {e : ExprTree} {p q r : ℕ} {xs zs : List Terminal}
        → DerivesExpr f e xs (Punct r paren_close ∷ zs) → BeginsStmt zs → BeginsStmt (Keyword p word_if ∷ Punct q paren_open ∷ xs)
    begun_stmt_if_else : {f : Form} {e : ExprTree} {x : StmtTree} {p q r u : ℕ} {xs zs ws : List Terminal}
        → DerivesExpr f e xs (Punct r paren_close ∷ zs) → DerivesStmt x zs (Keyword u word_else ∷ ws) → BeginsStmt ws
        → BeginsStmt (Keyword p word_if ∷ Punct q paren_open ∷ xs)
    begun_stmt_while : {p : ℕ} → BeginsStmt (Keyword p word_while ∷ [])
    begun_stmt_while_test : {p q : ℕ} {xs : List Terminal} → BeginsExpr xs → BeginsStmt (Keyword p word_while ∷ Punct q paren_open ∷ xs)
    begun_stmt_while_body : {f : Form} {e : ExprTree} {p q r : ℕ} {xs zs : List Terminal}
        → DerivesExpr f e xs (Punct r paren_close ∷ zs) → BeginsStmt zs → BeginsStmt (Keyword p word_while ∷ Punct q paren_open ∷ xs)
    begun_stmt_do : {p : ℕ} {xs : List Terminal} → BeginsStmt xs → BeginsStmt (Keyword p word_do ∷ xs)
    begun_stmt_do_while : {x : StmtTree} {p u : ℕ} {xs : List Terminal}
        → DerivesStmt x xs (Keyword u word_while ∷ []) → BeginsStmt (Keyword p word_do ∷ xs)
    begun_stmt_do_test : {x : StmtTree} {p q u : ℕ} {xs zs : List Terminal}
        → DerivesStmt x xs (Keyword u word_while ∷ Punct q paren_open ∷ zs) → BeginsExpr zs → BeginsStmt (Keyword p word_do ∷ xs)
    begun_stmt_do_close : {f : Form} {e : ExprTree} {x : StmtTree} {p q r u : ℕ} {xs zs : List Terminal}
        → DerivesStmt x xs (Keyword u word_while ∷ Punct q paren_open ∷ zs) → DerivesExpr f e zs (Punct r paren_close ∷ [])
        → BeginsStmt (Keyword p word_do ∷ xs)
    begun_stmt_for : {p : ℕ} → BeginsStmt (Keyword p word_for ∷ [])
    begun_stmt_for_first : {p q : ℕ} {xs : List Terminal} → BeginsFirst xs → BeginsStmt (Keyword p word_for ∷ Punct q paren_open ∷ xs)
    begun_stmt_for_test : {ss : StmtTrees} {p q u : ℕ} {xs zs : List Terminal}
        → DerivesFirst ss xs (Punct u semicolon ∷ zs) → BeginsOptional zs → BeginsStmt (Keyword p word_for ∷ Punct q paren_open ∷ xs)
    begun_stmt_for_updates : {ss : StmtTrees} {c : Option ExprTree} {p q u v : ℕ} {xs zs ws : List Terminal}
        → DerivesFirst ss xs (Punct u semicolon ∷ zs) → DerivesOptional c zs (Punct v semicolon ∷ ws) → BeginsUpdates ws
        → BeginsStmt (Keyword p word_for ∷ Punct q paren_open ∷ xs)
    begun_stmt_for_body : {ss : StmtTrees} {c : Option ExprTree} {es : ExprTrees} {p q r u v : ℕ} {xs zs ws vs : List Terminal}
        → DerivesFirst ss xs (Punct u semicolon ∷ zs) → DerivesOptional c zs (Punct v semicolon ∷ ws)
        → DerivesUpdates es ws (Punct r paren_close ∷ vs) → BeginsStmt vs → BeginsStmt (Keyword p word_for ∷ Punct q paren_open ∷ xs)
    begun_stmt_return : {p : ℕ} {xs : List Terminal} → BeginsOptional xs → BeginsStmt (Keyword p word_return ∷ xs)
    begun_stmt_break : {p : ℕ} → BeginsStmt (Keyword p word_break ∷ [])
    begun_stmt_continue : {p : ℕ} → BeginsStmt (Keyword p word_continue ∷ [])
    begun_stmt_whole : {x : StmtTree} {xs : List Terminal} → DerivesStmt x xs [] → BeginsStmt xs
