-- The most pairs of brackets that a type in a derivation of statements has.
use Rattle.std.specs.Prelude.{ℕ, max, List, Option}
use Rattle.jv_tree.specs.ExprTree.{ExprTree, ExprTrees}
use Rattle.jv_tree.specs.StmtTree.{VarTree, StmtTree, StmtTrees}
use Rattle.jv_grammar.specs.declared.terminal.Terminal.{Terminal}
use Rattle.jv_grammar.specs.StmtGrammar.{DerivesVar, var_alone, var_init, DerivesVars, vars_one, vars_more, DerivesLocal, local_vars, local_final, DerivesEffects, effects_one, effects_more, DerivesFirst, first_none, first_local, first_effects, DerivesOptional, optional_none, optional_some, DerivesUpdates, updates_none, updates_some, DerivesBlock, block, DerivesBstmts, bstmts_none, bstmts_more, DerivesBstmt, bstmt_local, bstmt_stmt, DerivesStmt, stmt_block, stmt_empty, stmt_effect, stmt_if, stmt_if_else, stmt_while, stmt_do, stmt_for, stmt_return, stmt_break, stmt_continue}
use Rattle.jv_grammar.specs.Width.{wide_ty, wide_expr, wide_init}

-- the most pairs of brackets that a type in the initializer of a variable has, and 0 without one
abbrev pub wide_var : {v : VarTree} {xs ys : List Terminal} → DerivesVar v xs ys → ℕ
wide_var var_alone = 0
wide_var (var_init d) = wide_init d

-- the most pairs of brackets that a type in the initializers of variables has
abbrev pub wide_vars : {vs : List VarTree} {xs ys : List Terminal} → DerivesVars vs xs ys → ℕ
wide_vars (vars_one d) = wide_var d
wide_vars (vars_more d r) = max (wide_var d) (wide_vars r)

-- the most pairs of brackets that a type in local variables has: theirs, and those in their initializers
abbrev pub wide_local : {x : StmtTree} {xs ys : List Terminal} → DerivesLocal x xs ys → ℕ
wide_local (local_vars d r) = max (wide_ty d) (wide_vars r)
wide_local (local_final d r) = max (wide_ty d) (wide_vars r)

-- the most pairs of brackets that a type in effects with commas between them has
abbrev pub wide_effects : {es : ExprTrees} {xs ys : List Terminal} → DerivesEffects es xs ys → ℕ
wide_effects (effects_one d) = wide_expr d
wide_effects (effects_more d r) = max (wide_expr d) (wide_effects r)

-- the most pairs of brackets that a type in what a `for` begins with has, and 0 for nothing
abbrev pub wide_first : {ss : StmtTrees} {xs ys : List Terminal} → DerivesFirst ss xs ys → ℕ
wide_first first_none = 0
wide_first (first_local d) = wide_local d
wide_first (first_effects d) = wide_effects d

-- the most pairs of brackets that a type in an expression has that may not be there: 0 where it is not
abbrev pub wide_optional : {c : Option ExprTree} {xs ys : List Terminal} → DerivesOptional c xs ys → ℕ
wide_optional optional_none = 0
wide_optional (optional_some d) = wide_expr d

-- the most pairs of brackets that a type in the effects after each round of a `for` has, and 0 for none
abbrev pub wide_updates : {es : ExprTrees} {xs ys : List Terminal} → DerivesUpdates es xs ys → ℕ
wide_updates updates_none = 0
wide_updates (updates_some d) = wide_effects d

abbrev mutual
  -- the most pairs of brackets that a type in a block has
  pub wide_block : {p : ℕ} {ss : StmtTrees} {xs ys : List Terminal} → DerivesBlock p ss xs ys → ℕ
  wide_block (block d) = wide_bstmts d

  -- the most pairs of brackets that a type in the statements of a block has
  pub wide_bstmts : {ss : StmtTrees} {xs ys : List Terminal} → DerivesBstmts ss xs ys → ℕ
  wide_bstmts bstmts_none = 0
  wide_bstmts (bstmts_more d r) = max (wide_bstmt d) (wide_bstmts r)

  -- the most pairs of brackets that a type in a statement of a block has
  pub wide_bstmt : {x : StmtTree} {xs ys : List Terminal} → DerivesBstmt x xs ys → ℕ
  wide_bstmt (bstmt_local d) = wide_local d
  wide_bstmt (bstmt_stmt d) = wide_stmt d

  -- the most pairs of brackets that a type in a statement has
  pub wide_stmt : {x : StmtTree} {xs ys : List Terminal} → DerivesStmt x xs ys → ℕ
  wide_stmt (stmt_block d) = wide_block d
  wide_stmt stmt_empty = 0
  wide_stmt (stmt_effect d) = wide_expr d
  wide_stmt (stmt_if c d h) = max (wide_expr c) (wide_stmt d)
  wide_stmt (stmt_if_else c d r) = max (wide_expr c) (max (wide_stmt d) (wide_stmt r))
  wide_stmt (stmt_while c d) = max (wide_expr c) (wide_stmt d)
  wide_stmt (stmt_do d c) = max (wide_stmt d) (wide_expr c)
  wide_stmt (stmt_for i c u d) = max (max (wide_first i) (max (wide_optional c) (wide_updates u))) (wide_stmt d)
  wide_stmt (stmt_return c) = wide_optional c
  wide_stmt stmt_break = 0
  wide_stmt stmt_continue = 0
