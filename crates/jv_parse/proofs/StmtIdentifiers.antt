-- That a derivation of a statement has the identifiers of its tree.
use Rattle.std.proofs.Common.{◌≡◌, ℕ, ◌+◌, List, Option, arith, refl}
use Rattle.jv_tree.specs.ExprTree.{ExprTree, ExprTrees}
use Rattle.jv_tree.specs.StmtTree.{VarTree, StmtTree, StmtKindTree, BranchTrees, ElseTree, StmtTrees}
use Rattle.jv_grammar.specs.declared.terminal.Terminal.{Terminal}
use Rattle.jv_grammar.specs.StmtGrammar.{if_else_kind, effect_stmts, DerivesVar, var_alone, var_init, DerivesVars, vars_one, vars_more, DerivesLocal, local_vars, local_final, DerivesEffects, effects_one, effects_more, DerivesFirst, first_none, first_local, first_effects, DerivesOptional, optional_none, optional_some, DerivesUpdates, updates_none, updates_some, DerivesBlock, block, DerivesBstmts, bstmts_none, bstmts_more, DerivesBstmt, bstmt_local, bstmt_stmt, DerivesStmt, stmt_block, stmt_empty, stmt_effect, stmt_if, stmt_if_else, stmt_while, stmt_do, stmt_for, stmt_return, stmt_break, stmt_continue}
use Rattle.jv_tree.specs.ExprTree as t
use Rattle.jv_tree.specs.StmtTree as s
use Rattle.jv_parse.proofs.ExprIdentifiers.{counted_ty, counted_expr, counted_init}
use Rattle.jv_tree.specs.Identifiers.{idents_expr, idents_exprs, idents_var, idents_vars, idents_condition, idents_stmt, idents_stmt_kind, idents_stmts}
use Rattle.jv_parse.specs.Identifiers.{idents_terminals}

-- effects have the identifiers of their expressions, and an `if` with its `else` those of its three parts
idents_of_effects : (es : ExprTrees) → idents_stmts (effect_stmts es) ≡ idents_exprs es
idents_of_effects t.no_exprs = refl
idents_of_effects (t.exprs x xs) = omega (arith, idents_of_effects xs)

idents_of_if_else : (e : ExprTree) (x y : StmtTree) → idents_stmt_kind (if_else_kind e x y) ≡ idents_expr e + idents_stmt x + idents_stmt y
idents_of_if_else e x (s.stmt at (s.block xs)) = omega arith
idents_of_if_else e x (s.stmt at s.empty) = omega arith
idents_of_if_else e x (s.stmt at (s.local f r vs)) = omega arith
idents_of_if_else e x (s.stmt at (s.effect y)) = omega arith
idents_of_if_else e x (s.stmt at (s.if_else bs y)) = omega arith
idents_of_if_else e x (s.stmt at (s.while_loop c y)) = omega arith
idents_of_if_else e x (s.stmt at (s.do_loop y c)) = omega arith
idents_of_if_else e x (s.stmt at (s.for_loop xs c ys y)) = omega arith
idents_of_if_else e x (s.stmt at (s.return c)) = omega arith
idents_of_if_else e x (s.stmt at s.break) = omega arith
idents_of_if_else e x (s.stmt at s.continue) = omega arith

-- a derivation takes the identifiers of its tree, and no other
pub counted_var : {v : VarTree} {xs ys : List Terminal} → DerivesVar v xs ys → idents_var v + idents_terminals ys ≡ idents_terminals xs
counted_var var_alone = omega arith
counted_var (var_init d) = omega (arith, counted_init d)

pub counted_vars : {vs : List VarTree} {xs ys : List Terminal} → DerivesVars vs xs ys → idents_vars vs + idents_terminals ys ≡ idents_terminals xs
counted_vars (vars_one d) = omega (arith, counted_var d)
counted_vars (vars_more d r) = omega (arith, counted_var d, counted_vars r)

pub counted_local : {x : StmtTree} {xs ys : List Terminal} → DerivesLocal x xs ys → idents_stmt x + idents_terminals ys ≡ idents_terminals xs
counted_local (local_vars d r) = omega (arith, counted_ty d, counted_vars r)
counted_local (local_final d r) = omega (arith, counted_ty d, counted_vars r)

pub counted_effects : {es : ExprTrees} {xs ys : List Terminal} → DerivesEffects es xs ys → idents_exprs es + idents_terminals ys ≡ idents_terminals xs
counted_effects (effects_one d) = omega (arith, counted_expr d)
counted_effects (effects_more d r) = omega (arith, counted_expr d, counted_effects r)

pub counted_first : {ss : StmtTrees} {xs ys : List Terminal} → DerivesFirst ss xs ys → idents_stmts ss + idents_terminals ys ≡ idents_terminals xs
counted_first first_none = omega arith
counted_first (first_local d) = omega (arith, counted_local d)
counted_first (first_effects {es} d) = omega (arith, idents_of_effects es, counted_effects d)

pub counted_optional : {c : Option ExprTree} {xs ys : List Terminal} → DerivesOptional c xs ys → idents_condition c + idents_terminals ys ≡ idents_terminals xs
counted_optional optional_none = omega arith
counted_optional (optional_some d) = omega (arith, counted_expr d)

pub counted_updates : {es : ExprTrees} {xs ys : List Terminal} → DerivesUpdates es xs ys → idents_exprs es + idents_terminals ys ≡ idents_terminals xs
counted_updates updates_none = omega arith
counted_updates (updates_some d) = omega (arith, counted_effects d)

mutual
  pub counted_block : {p : ℕ} {ss : StmtTrees} {xs ys : List Terminal} → DerivesBlock p ss xs ys → idents_stmts ss + idents_terminals ys ≡ idents_terminals xs
  counted_block (block d) = omega (arith, counted_bstmts d)

  pub counted_bstmts : {ss : StmtTrees} {xs ys : List Terminal} → DerivesBstmts ss xs ys → idents_stmts ss + idents_terminals ys ≡ idents_terminals xs
  counted_bstmts bstmts_none = omega arith
  counted_bstmts (bstmts_more d r) = omega (arith, counted_bstmt d, counted_bstmts r)

  pub counted_bstmt : {x : StmtTree} {xs ys : List Terminal} → DerivesBstmt x xs ys → idents_stmt x + idents_terminals ys ≡ idents_terminals xs
  counted_bstmt (bstmt_local d) = omega (arith, counted_local d)
  counted_bstmt (bstmt_stmt d) = omega (arith, counted_stmt d)

  pub counted_stmt : {x : StmtTree} {xs ys : List Terminal} → DerivesStmt x xs ys → idents_stmt x + idents_terminals ys ≡ idents_terminals xs
  counted_stmt (stmt_block d) = omega (arith, counted_block d)
  counted_stmt stmt_empty = omega arith
  counted_stmt (stmt_effect d) = omega (arith, counted_expr d)
  counted_stmt (stmt_if c d h) = omega (arith, counted_expr c, counted_stmt d)
  counted_stmt (stmt_if_else {e} {x} {y} c d r) = omega (arith, idents_of_if_else e x y, counted_expr c, counted_stmt d, counted_stmt r)
  counted_stmt (stmt_while c d) = omega (arith, counted_expr c, counted_stmt d)
  counted_stmt (stmt_do d c) = omega (arith, counted_stmt d, counted_expr c)
  counted_stmt (stmt_for i c u d) = omega (arith, counted_first i, counted_optional c, counted_updates u, counted_stmt d)
  counted_stmt (stmt_return c) = omega (arith, counted_optional c)
  counted_stmt stmt_break = omega arith
  counted_stmt stmt_continue = omega arith
