-- That a derivation of statements takes terminals, and nests less deep than it takes them.
use Rattle.std.proofs.Common.{ℕ, ◌<◌, ◌≤◌, ◌+◌, List, length, Option, arith}
use Rattle.jv_tree.specs.ExprTree.{ExprTree, ExprTrees}
use Rattle.jv_tree.specs.StmtTree.{VarTree, StmtTree, StmtTrees}
use Rattle.jv_grammar.specs.declared.terminal.Terminal.{Terminal}
use Rattle.jv_grammar.specs.StmtGrammar.{DerivesVar, var_alone, var_init, DerivesVars, vars_one, vars_more, DerivesLocal, local_vars, local_final, DerivesEffects, effects_one, effects_more, DerivesFirst, first_none, first_local, first_effects, DerivesOptional, optional_none, optional_some, DerivesUpdates, updates_none, updates_some, DerivesBlock, block, DerivesBstmts, bstmts_none, bstmts_more, DerivesBstmt, bstmt_local, bstmt_stmt, DerivesStmt, stmt_block, stmt_empty, stmt_effect, stmt_if, stmt_if_else, stmt_while, stmt_do, stmt_for, stmt_return, stmt_break, stmt_continue}
use Rattle.jv_grammar.proofs.Depth.{less_ty, less_expr, less_init, fits_expr, fits_init}
pub use Rattle.jv_grammar.specs.Depth.{deep_var, deep_vars, deep_local, deep_effects, deep_first, deep_optional, deep_updates, deep_block, deep_bstmts, deep_bstmt, deep_stmt}

-- a derivation takes at least one terminal; what may be left out takes any number
pub less_var : {v : VarTree} {xs ys : List Terminal} → DerivesVar v xs ys → length ys < length xs
less_var var_alone = omega arith
less_var (var_init d) = omega (arith, less_init d)

pub less_vars : {vs : List VarTree} {xs ys : List Terminal} → DerivesVars vs xs ys → length ys < length xs
less_vars (vars_one d) = less_var d
less_vars (vars_more d r) = omega (arith, less_var d, less_vars r)

pub less_local : {x : StmtTree} {xs ys : List Terminal} → DerivesLocal x xs ys → length ys < length xs
less_local (local_vars d r) = omega (arith, less_ty d, less_vars r)
less_local (local_final d r) = omega (arith, less_ty d, less_vars r)

pub less_effects : {es : ExprTrees} {xs ys : List Terminal} → DerivesEffects es xs ys → length ys < length xs
less_effects (effects_one d) = less_expr d
less_effects (effects_more d r) = omega (arith, less_expr d, less_effects r)

pub less_first : {ss : StmtTrees} {xs ys : List Terminal} → DerivesFirst ss xs ys → length ys ≤ length xs
less_first first_none = omega arith
less_first (first_local d) = omega (arith, less_local d)
less_first (first_effects d) = omega (arith, less_effects d)

pub less_optional : {c : Option ExprTree} {xs ys : List Terminal} → DerivesOptional c xs ys → length ys ≤ length xs
less_optional optional_none = omega arith
less_optional (optional_some d) = omega (arith, less_expr d)

pub less_updates : {es : ExprTrees} {xs ys : List Terminal} → DerivesUpdates es xs ys → length ys ≤ length xs
less_updates updates_none = omega arith
less_updates (updates_some d) = omega (arith, less_effects d)

mutual
  pub less_block : {p : ℕ} {ss : StmtTrees} {xs ys : List Terminal} → DerivesBlock p ss xs ys → length ys < length xs
  less_block (block d) = omega (arith, less_bstmts d)

  pub less_bstmts : {ss : StmtTrees} {xs ys : List Terminal} → DerivesBstmts ss xs ys → length ys ≤ length xs
  less_bstmts bstmts_none = omega arith
  less_bstmts (bstmts_more d r) = omega (arith, less_bstmt d, less_bstmts r)

  pub less_bstmt : {x : StmtTree} {xs ys : List Terminal} → DerivesBstmt x xs ys → length ys < length xs
  less_bstmt (bstmt_local d) = omega (arith, less_local d)
  less_bstmt (bstmt_stmt d) = less_stmt d

  pub less_stmt : {x : StmtTree} {xs ys : List Terminal} → DerivesStmt x xs ys → length ys < length xs
  less_stmt (stmt_block d) = less_block d
  less_stmt stmt_empty = omega arith
  less_stmt (stmt_effect d) = omega (arith, less_expr d)
  less_stmt (stmt_if c d h) = omega (arith, less_expr c, less_stmt d)
  less_stmt (stmt_if_else c d r) = omega (arith, less_expr c, less_stmt d, less_stmt r)
  less_stmt (stmt_while c d) = omega (arith, less_expr c, less_stmt d)
  less_stmt (stmt_do d c) = omega (arith, less_stmt d, less_expr c)
  less_stmt (stmt_for i c u d) = omega (arith, less_first i, less_optional c, less_updates u, less_stmt d)
  less_stmt (stmt_return c) = omega (arith, less_optional c)
  less_stmt stmt_break = omega arith
  less_stmt stmt_continue = omega arith

-- a derivation nests less deep than it has terminals
pub fits_var : {v : VarTree} {xs ys : List Terminal} (d : DerivesVar v xs ys) → deep_var d + length ys < length xs
fits_var var_alone = omega arith
fits_var (var_init d) = omega (arith, fits_init d)

pub fits_vars : {vs : List VarTree} {xs ys : List Terminal} (d : DerivesVars vs xs ys) → deep_vars d + length ys < length xs
fits_vars (vars_one d) = fits_var d
fits_vars (vars_more d r) = omega (arith, fits_var d, fits_vars r)

pub fits_local : {x : StmtTree} {xs ys : List Terminal} (d : DerivesLocal x xs ys) → deep_local d + length ys < length xs
fits_local (local_vars d r) = omega (arith, less_ty d, fits_vars r)
fits_local (local_final d r) = omega (arith, less_ty d, fits_vars r)

pub fits_effects : {es : ExprTrees} {xs ys : List Terminal} (d : DerivesEffects es xs ys) → deep_effects d + length ys < length xs
fits_effects (effects_one d) = fits_expr d
fits_effects (effects_more d r) = omega (arith, fits_expr d, fits_effects r)

pub fits_first : {ss : StmtTrees} {xs ys : List Terminal} (d : DerivesFirst ss xs ys) → deep_first d + length ys ≤ length xs
fits_first first_none = omega arith
fits_first (first_local d) = omega (arith, fits_local d)
fits_first (first_effects d) = omega (arith, fits_effects d)

pub fits_optional : {c : Option ExprTree} {xs ys : List Terminal} (d : DerivesOptional c xs ys) → deep_optional d + length ys ≤ length xs
fits_optional optional_none = omega arith
fits_optional (optional_some d) = omega (arith, fits_expr d)

pub fits_updates : {es : ExprTrees} {xs ys : List Terminal} (d : DerivesUpdates es xs ys) → deep_updates d + length ys ≤ length xs
fits_updates updates_none = omega arith
fits_updates (updates_some d) = omega (arith, fits_effects d)

mutual
  pub fits_block : {p : ℕ} {ss : StmtTrees} {xs ys : List Terminal} (d : DerivesBlock p ss xs ys) → deep_block d + length ys < length xs
  fits_block (block d) = omega (arith, fits_bstmts d)

  pub fits_bstmts : {ss : StmtTrees} {xs ys : List Terminal} (d : DerivesBstmts ss xs ys) → deep_bstmts d + length ys ≤ length xs
  fits_bstmts bstmts_none = omega arith
  fits_bstmts (bstmts_more d r) = omega (arith, fits_bstmt d, fits_bstmts r)

  pub fits_bstmt : {x : StmtTree} {xs ys : List Terminal} (d : DerivesBstmt x xs ys) → deep_bstmt d + length ys < length xs
  fits_bstmt (bstmt_local d) = omega (arith, fits_local d)
  fits_bstmt (bstmt_stmt d) = fits_stmt d

  pub fits_stmt : {x : StmtTree} {xs ys : List Terminal} (d : DerivesStmt x xs ys) → deep_stmt d + length ys < length xs
  fits_stmt (stmt_block d) = fits_block d
  fits_stmt stmt_empty = omega arith
  fits_stmt (stmt_effect d) = omega (arith, fits_expr d)
  fits_stmt (stmt_if c d h) = omega (arith, fits_expr c, fits_stmt d)
  fits_stmt (stmt_if_else c d r) = omega (arith, fits_expr c, fits_stmt d, fits_stmt r)
  fits_stmt (stmt_while c d) = omega (arith, fits_expr c, fits_stmt d)
  fits_stmt (stmt_do d c) = omega (arith, fits_stmt d, fits_expr c)
  fits_stmt (stmt_for i c u d) = omega (arith, fits_first i, fits_optional c, fits_updates u, fits_stmt d)
  fits_stmt (stmt_return c) = omega (arith, fits_optional c)
  fits_stmt stmt_break = omega arith
  fits_stmt stmt_continue = omega arith
