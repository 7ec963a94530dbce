-- That the identifiers of a statement are numbered where those of its terminals are.
use Rattle.std.proofs.Common.{ℕ, List, [], Option}
use Rattle.jv_tree.specs.ExprTree.{ExprTree, ExprTrees}
use Rattle.jv_tree.specs.StmtTree.{VarTree, StmtTree, StmtKindTree, BranchTrees, ElseTree, StmtTrees}
use Rattle.jv_grammar.specs.declared.terminal.Terminal.{Terminal}
use Rattle.jv_grammar.specs.StmtGrammar.{if_else_kind, effect_stmts, DerivesVar, var_alone, var_init, DerivesVars, vars_one, vars_more, DerivesLocal, local_vars, local_final, DerivesEffects, effects_one, effects_more, DerivesFirst, first_none, first_local, first_effects, DerivesOptional, optional_none, optional_some, DerivesUpdates, updates_none, updates_some, DerivesBlock, block, DerivesBstmts, bstmts_none, bstmts_more, DerivesBstmt, bstmt_local, bstmt_stmt, DerivesStmt, stmt_block, stmt_empty, stmt_effect, stmt_if, stmt_if_else, stmt_while, stmt_do, stmt_for, stmt_return, stmt_break, stmt_continue}
use Rattle.jv_tree.specs.ExprTree as t
use Rattle.jv_tree.specs.StmtTree as s
use Rattle.std.specs.List.{All}
use Rattle.std.proofs.lemmas.List.Elements.{All-cons, All-nil}
use Rattle.jv_tree.specs.Numbered.{IsNumberedExpr, AreNumberedExprs, IsNumberedVar, IsNumberedCondition, IsNumberedStmt, IsNumberedStmtKind, AreNumberedStmts}
use Rattle.jv_parse.specs.Identifiers.{AreNumberedTerminals}
use Rattle.jv_parse.proofs.ExprNumbers.{numbered_ty, numbered_expr, numbered_init}

module _ (n : ℕ) where
  -- effects have the identifiers of their expressions, and an `if` with its `else` those of its three parts
  numbered_effect_stmts : (es : ExprTrees) → AreNumberedExprs n es → AreNumberedStmts n (effect_stmts es)
  numbered_effect_stmts t.no_exprs h = tt
  numbered_effect_stmts (t.exprs x xs) h = (h.0, numbered_effect_stmts xs h.1)

  numbered_if_else : (e : ExprTree) (x y : StmtTree) → IsNumberedExpr n e → IsNumberedStmt n x → IsNumberedStmt n y → IsNumberedStmtKind n (if_else_kind e x y)
  numbered_if_else e x (s.stmt at (s.block xs)) a b c = ((a, b, tt), c)
  numbered_if_else e x (s.stmt at s.empty) a b c = ((a, b, tt), c)
  numbered_if_else e x (s.stmt at (s.local f r vs)) a b c = ((a, b, tt), c)
  numbered_if_else e x (s.stmt at (s.effect y)) a b c = ((a, b, tt), c)
  numbered_if_else e x (s.stmt at (s.if_else bs y)) a b c = ((a, b, c.0), c.1)
  numbered_if_else e x (s.stmt at (s.while_loop z y)) a b c = ((a, b, tt), c)
  numbered_if_else e x (s.stmt at (s.do_loop y z)) a b c = ((a, b, tt), c)
  numbered_if_else e x (s.stmt at (s.for_loop xs z ys y)) a b c = ((a, b, tt), c)
  numbered_if_else e x (s.stmt at (s.return z)) a b c = ((a, b, tt), c)
  numbered_if_else e x (s.stmt at s.break) a b c = ((a, b, tt), c)
  numbered_if_else e x (s.stmt at s.continue) a b c = ((a, b, tt), c)

  -- a derivation gives its tree the identifiers of the terminals that it takes
  pub numbered_var : {v : VarTree} {xs ys : List Terminal} → DerivesVar v xs ys → AreNumberedTerminals n xs → IsNumberedVar n v × AreNumberedTerminals n ys
  numbered_var var_alone h = ((h.0, tt), h.1)
  numbered_var (var_init d) h = let a = numbered_init n d h.1 in ((h.0, a.0), a.1)

  pub numbered_vars : {vs : List VarTree} {xs ys : List Terminal} → DerivesVars vs xs ys → AreNumberedTerminals n xs → All (IsNumberedVar n) vs × AreNumberedTerminals n ys
  numbered_vars (vars_one {v} d) h = let a = numbered_var d h in (All-cons (IsNumberedVar n) v [] a.0 (All-nil (IsNumberedVar n)), a.1)
  numbered_vars (vars_more {v} {vs} d r) h = let a = numbered_var d h in let b = numbered_vars r a.1 in (All-cons (IsNumberedVar n) v vs a.0 b.0, b.1)

  pub numbered_local : {x : StmtTree} {xs ys : List Terminal} → DerivesLocal x xs ys → AreNumberedTerminals n xs → IsNumberedStmt n x × AreNumberedTerminals n ys
  numbered_local (local_vars d r) h = let a = numbered_ty n d h in let b = numbered_vars r a.1 in ((a.0, b.0), b.1)
  numbered_local (local_final d r) h = let a = numbered_ty n d h in let b = numbered_vars r a.1 in ((a.0, b.0), b.1)

  pub numbered_effects : {es : ExprTrees} {xs ys : List Terminal} → DerivesEffects es xs ys → AreNumberedTerminals n xs → AreNumberedExprs n es × AreNumberedTerminals n ys
  numbered_effects (effects_one d) h = let a = numbered_expr n d h in ((a.0, tt), a.1)
  numbered_effects (effects_more d r) h = let a = numbered_expr n d h in let b = numbered_effects r a.1 in ((a.0, b.0), b.1)

  pub numbered_first : {ss : StmtTrees} {xs ys : List Terminal} → DerivesFirst ss xs ys → AreNumberedTerminals n xs → AreNumberedStmts n ss × AreNumberedTerminals n ys
  numbered_first first_none h = (tt, h)
  numbered_first (first_local d) h = let a = numbered_local d h in ((a.0, tt), a.1)
  numbered_first (first_effects {es} d) h = let a = numbered_effects d h in (numbered_effect_stmts es a.0, a.1)

  pub numbered_optional : {c : Option ExprTree} {xs ys : List Terminal} → DerivesOptional c xs ys → AreNumberedTerminals n xs → IsNumberedCondition n c × AreNumberedTerminals n ys
  numbered_optional optional_none h = (tt, h)
  numbered_optional (optional_some d) h = numbered_expr n d h

  pub numbered_updates : {es : ExprTrees} {xs ys : List Terminal} → DerivesUpdates es xs ys → AreNumberedTerminals n xs → AreNumberedExprs n es × AreNumberedTerminals n ys
  numbered_updates updates_none h = (tt, h)
  numbered_updates (updates_some d) h = numbered_effects d h

  mutual
    pub numbered_block : {p : ℕ} {ss : StmtTrees} {xs ys : List Terminal} → DerivesBlock p ss xs ys → AreNumberedTerminals n xs → AreNumberedStmts n ss × AreNumberedTerminals n ys
    numbered_block (block d) h = numbered_bstmts d h

    pub numbered_bstmts : {ss : StmtTrees} {xs ys : List Terminal} → DerivesBstmts ss xs ys → AreNumberedTerminals n xs → AreNumberedStmts n ss × AreNumberedTerminals n ys
    numbered_bstmts bstmts_none h = (tt, h)
    numbered_bstmts (bstmts_more d r) h = let a = numbered_bstmt d h in let b = numbered_bstmts r a.1 in ((a.0, b.0), b.1)

    pub numbered_bstmt : {x : StmtTree} {xs ys : List Terminal} → DerivesBstmt x xs ys → AreNumberedTerminals n xs → IsNumberedStmt n x × AreNumberedTerminals n ys
    numbered_bstmt (bstmt_local d) h = numbered_local d h
    numbered_bstmt (bstmt_stmt d) h = numbered_stmt d h

    pub numbered_stmt : {x : StmtTree} {xs ys : List Terminal} → DerivesStmt x xs ys → AreNumberedTerminals n xs → IsNumberedStmt n x × AreNumberedTerminals n ys
    numbered_stmt (stmt_block d) h = numbered_block d h
    numbered_stmt stmt_empty h = (tt, h)
    numbered_stmt (stmt_effect d) h = numbered_expr n d h
    numbered_stmt (stmt_if c d g) h = let a = numbered_expr n c h in let b = numbered_stmt d a.1 in (((a.0, b.0, tt), tt), b.1)
    numbered_stmt (stmt_if_else {e} {x} {y} c d r) h = let a = numbered_expr n c h in let b = numbered_stmt d a.1 in let z = numbered_stmt r b.1 in (numbered_if_else e x y a.0 b.0 z.0, z.1)
    numbered_stmt (stmt_while c d) h = let a = numbered_expr n c h in let b = numbered_stmt d a.1 in ((a.0, b.0), b.1)
    numbered_stmt (stmt_do d c) h = let a = numbered_stmt d h in let b = numbered_expr n c a.1 in ((a.0, b.0), b.1)
    numbered_stmt (stmt_for i c u d) h = let a = numbered_first i h in let b = numbered_optional c a.1 in let x = numbered_updates u b.1 in let y = numbered_stmt d x.1 in ((a.0, b.0, x.0, y.0), y.1)
    numbered_stmt (stmt_return c) h = numbered_optional c h
    numbered_stmt stmt_break h = (tt, h)
    numbered_stmt stmt_continue h = (tt, h)
