-- Where no more than 200 pairs of square brackets follow one another, no type that derives in statements has more.
use Rattle.std.proofs.Common.{ℕ, ◌≤◌, List, Option, arith, refl}
use Rattle.jv_tree.specs.ExprTree.{ExprTree, ExprTrees}
use Rattle.jv_tree.specs.StmtTree.{VarTree, StmtTree, StmtTrees}
use Rattle.jv_grammar.specs.declared.terminal.Terminal.{Terminal}
use Rattle.jv_grammar.specs.StmtGrammar.{DerivesVar, var_alone, var_init, DerivesVars, vars_one, vars_more, DerivesLocal, local_vars, local_final, DerivesEffects, effects_one, effects_more, DerivesFirst, first_none, first_local, first_effects, DerivesOptional, optional_none, optional_some, DerivesUpdates, updates_none, updates_some, DerivesBlock, block, DerivesBstmts, bstmts_none, bstmts_more, DerivesBstmt, bstmt_local, bstmt_stmt, DerivesStmt, stmt_block, stmt_empty, stmt_effect, stmt_if, stmt_if_else, stmt_while, stmt_do, stmt_for, stmt_return, stmt_break, stmt_continue}
use Rattle.jv_grammar.specs.Load.{IsClosed, nothing, terminal, group, HasFewBrackets}
use Rattle.jv_grammar.specs.StmtWidth.{wide_var, wide_vars, wide_local, wide_effects, wide_first, wide_optional, wide_updates, wide_block, wide_bstmts, wide_bstmt, wide_stmt}
use Rattle.jv_grammar.proofs.ClosedBrackets.{closed_trans, few_behind}
use Rattle.jv_grammar.proofs.Few.{closed_ty, closed_expr, closed_init, few_ty, few_expr, few_init}

-- each bracket of a derivation is closed in it
pub closed_var : {v : VarTree} {xs ys : List Terminal} → DerivesVar v xs ys → IsClosed xs ys
closed_var var_alone = terminal refl refl nothing
closed_var (var_init d) = terminal refl refl (terminal refl refl (closed_init d))

pub closed_vars : {vs : List VarTree} {xs ys : List Terminal} → DerivesVars vs xs ys → IsClosed xs ys
closed_vars (vars_one d) = closed_var d
closed_vars (vars_more d r) = closed_trans (closed_var d) (terminal refl refl (closed_vars r))

pub closed_local : {x : StmtTree} {xs ys : List Terminal} → DerivesLocal x xs ys → IsClosed xs ys
closed_local (local_vars d r) = closed_trans (closed_ty d) (closed_vars r)
closed_local (local_final d r) = terminal refl refl (closed_trans (closed_ty d) (closed_vars r))

pub closed_effects : {es : ExprTrees} {xs ys : List Terminal} → DerivesEffects es xs ys → IsClosed xs ys
closed_effects (effects_one d) = closed_expr d
closed_effects (effects_more d r) = closed_trans (closed_expr d) (terminal refl refl (closed_effects r))

pub closed_first : {ss : StmtTrees} {xs ys : List Terminal} → DerivesFirst ss xs ys → IsClosed xs ys
closed_first first_none = nothing
closed_first (first_local d) = closed_local d
closed_first (first_effects d) = closed_effects d

pub closed_optional : {c : Option ExprTree} {xs ys : List Terminal} → DerivesOptional c xs ys → IsClosed xs ys
closed_optional optional_none = nothing
closed_optional (optional_some d) = closed_expr d

pub closed_updates : {es : ExprTrees} {xs ys : List Terminal} → DerivesUpdates es xs ys → IsClosed xs ys
closed_updates updates_none = nothing
closed_updates (updates_some d) = closed_effects d

mutual
  pub closed_block : {p : ℕ} {ss : StmtTrees} {xs ys : List Terminal} → DerivesBlock p ss xs ys → IsClosed xs ys
  closed_block (block d) = group refl (closed_bstmts d) refl nothing

  pub closed_bstmts : {ss : StmtTrees} {xs ys : List Terminal} → DerivesBstmts ss xs ys → IsClosed xs ys
  closed_bstmts bstmts_none = nothing
  closed_bstmts (bstmts_more d r) = closed_trans (closed_bstmt d) (closed_bstmts r)

  pub closed_bstmt : {x : StmtTree} {xs ys : List Terminal} → DerivesBstmt x xs ys → IsClosed xs ys
  closed_bstmt (bstmt_local d) = closed_trans (closed_local d) (terminal refl refl nothing)
  closed_bstmt (bstmt_stmt d) = closed_stmt d

  pub closed_stmt : {x : StmtTree} {xs ys : List Terminal} → DerivesStmt x xs ys → IsClosed xs ys
  closed_stmt (stmt_block d) = closed_block d
  closed_stmt stmt_empty = terminal refl refl nothing
  closed_stmt (stmt_effect d) = closed_trans (closed_expr d) (terminal refl refl nothing)
  closed_stmt (stmt_if c d m) = terminal refl refl (group refl (closed_expr c) refl (closed_stmt d))
  closed_stmt (stmt_if_else c d r) = terminal refl refl (group refl (closed_expr c) refl (closed_trans (closed_stmt d) (terminal refl refl (closed_stmt r))))
  closed_stmt (stmt_while c d) = terminal refl refl (group refl (closed_expr c) refl (closed_stmt d))
  closed_stmt (stmt_do d c) = terminal refl refl (closed_trans (closed_stmt d) (terminal refl refl (group refl (closed_expr c) refl (terminal refl refl nothing))))
  closed_stmt (stmt_for i c u d) =
      terminal refl refl (group refl (closed_trans (closed_first i) (terminal refl refl (closed_trans (closed_optional c) (terminal refl refl (closed_updates u))))) refl (closed_stmt d))
  closed_stmt (stmt_return c) = terminal refl refl (closed_trans (closed_optional c) (terminal refl refl nothing))
  closed_stmt stmt_break = terminal refl refl (terminal refl refl nothing)
  closed_stmt stmt_continue = terminal refl refl (terminal refl refl nothing)

-- no type has more than 200 pairs
pub few_var : {v : VarTree} {xs ys : List Terminal} → HasFewBrackets xs → (d : DerivesVar v xs ys) → wide_var d ≤ 200
few_var h var_alone = omega arith
few_var h (var_init d) = few_init h.1.1 d

pub few_vars : {vs : List VarTree} {xs ys : List Terminal} → HasFewBrackets xs → (d : DerivesVars vs xs ys) → wide_vars d ≤ 200
few_vars h (vars_one d) = few_var h d
few_vars h (vars_more d r) = omega (arith, few_var h d, few_vars (few_behind (closed_var d) h).1 r)

pub few_local : {x : StmtTree} {xs ys : List Terminal} → HasFewBrackets xs → (d : DerivesLocal x xs ys) → wide_local d ≤ 200
few_local h (local_vars d r) = omega (arith, few_ty h d, few_vars (few_behind (closed_ty d) h) r)
few_local h (local_final d r) = omega (arith, few_ty h.1 d, few_vars (few_behind (closed_ty d) h.1) r)

pub few_effects : {es : ExprTrees} {xs ys : List Terminal} → HasFewBrackets xs → (d : DerivesEffects es xs ys) → wide_effects d ≤ 200
few_effects h (effects_one d) = few_expr h d
few_effects h (effects_more d r) = omega (arith, few_expr h d, few_effects (few_behind (closed_expr d) h).1 r)

pub few_first : {ss : StmtTrees} {xs ys : List Terminal} → HasFewBrackets xs → (d : DerivesFirst ss xs ys) → wide_first d ≤ 200
few_first h first_none = omega arith
few_first h (first_local d) = few_local h d
few_first h (first_effects d) = few_effects h d

pub few_optional : {c : Option ExprTree} {xs ys : List Terminal} → HasFewBrackets xs → (d : DerivesOptional c xs ys) → wide_optional d ≤ 200
few_optional h optional_none = omega arith
few_optional h (optional_some d) = few_expr h d

pub few_updates : {es : ExprTrees} {xs ys : List Terminal} → HasFewBrackets xs → (d : DerivesUpdates es xs ys) → wide_updates d ≤ 200
few_updates h updates_none = omega arith
few_updates h (updates_some d) = few_effects h d

mutual
  pub few_block : {p : ℕ} {ss : StmtTrees} {xs ys : List Terminal} → HasFewBrackets xs → (d : DerivesBlock p ss xs ys) → wide_block d ≤ 200
  few_block h (block d) = few_bstmts h.1 d

  pub few_bstmts : {ss : StmtTrees} {xs ys : List Terminal} → HasFewBrackets xs → (d : DerivesBstmts ss xs ys) → wide_bstmts d ≤ 200
  few_bstmts h bstmts_none = omega arith
  few_bstmts h (bstmts_more d r) = omega (arith, few_bstmt h d, few_bstmts (few_behind (closed_bstmt d) h) r)

  pub few_bstmt : {x : StmtTree} {xs ys : List Terminal} → HasFewBrackets xs → (d : DerivesBstmt x xs ys) → wide_bstmt d ≤ 200
  few_bstmt h (bstmt_local d) = few_local h d
  few_bstmt h (bstmt_stmt d) = few_stmt h d

  pub few_stmt : {x : StmtTree} {xs ys : List Terminal} → HasFewBrackets xs → (d : DerivesStmt x xs ys) → wide_stmt d ≤ 200
  few_stmt h (stmt_block d) = few_block h d
  few_stmt h stmt_empty = omega arith
  few_stmt h (stmt_effect d) = few_expr h d
  few_stmt h (stmt_if c d m) = omega (arith, few_expr h.1.1 c, few_stmt (few_behind (closed_expr c) h.1.1).1 d)
  few_stmt h (stmt_if_else c d r) =
      let k = (few_behind (closed_expr c) h.1.1).1 in
      omega (arith, few_expr h.1.1 c, few_stmt k d, few_stmt (few_behind (closed_stmt d) k).1 r)
  few_stmt h (stmt_while c d) = omega (arith, few_expr h.1.1 c, few_stmt (few_behind (closed_expr c) h.1.1).1 d)
  few_stmt h (stmt_do d c) = omega (arith, few_stmt h.1 d, few_expr (few_behind (closed_stmt d) h.1).1.1 c)
  few_stmt h (stmt_for i c u d) =
      let k = (few_behind (closed_first i) h.1.1).1 in
      let l = (few_behind (closed_optional c) k).1 in
      omega (arith, few_first h.1.1 i, few_optional k c, few_updates l u, few_stmt (few_behind (closed_updates u) l).1 d)
  few_stmt h (stmt_return c) = few_optional h.1 c
  few_stmt h stmt_break = omega arith
  few_stmt h stmt_continue = omega arith
