-- What derives as statements has the shape of the grammar, where its types have at most 200 pairs of brackets.
use Rattle.std.proofs.Common.{ℕ, ◌≤◌, List, [], arith, Option}
use Rattle.std.proofs.lemmas.List.Elements.{All-nil, All-cons}
use Rattle.jv_tree.specs.ExprTree as t
use Rattle.jv_tree.specs.ExprTree.{ExprTree, ExprTrees}
use Rattle.jv_tree.specs.StmtTree as s
use Rattle.jv_tree.specs.StmtTree.{VarTree, StmtTree, StmtTrees}
use Rattle.jv_tree.specs.Shaped.{IsShapedExpr, AreShapedExprs, IsShapedOption, AreShapedVars, IsShapedCondition, IsBody, AreEffects, IsForHead, AreUpdates, IsShapedStmt, IsShapedStmtKind, AreShapedStmts}
use Rattle.jv_grammar.specs.declared.terminal.Terminal.{Terminal}
use Rattle.jv_grammar.specs.StmtGrammar.{if_else_kind, effect_stmts, DerivesVar, var_alone, var_init, DerivesVars, vars_one, vars_more, DerivesLocal, local_vars, local_final, DerivesEffects, effects_one, effects_more, DerivesFirst, first_none, first_local, first_effects, DerivesOptional, optional_none, optional_some, DerivesUpdates, updates_none, updates_some, DerivesBlock, block, DerivesBstmts, bstmts_none, bstmts_more, DerivesBstmt, bstmt_local, bstmt_stmt, DerivesStmt, stmt_block, stmt_empty, stmt_effect, stmt_if, stmt_if_else, stmt_while, stmt_do, stmt_for, stmt_return, stmt_break, stmt_continue}
use Rattle.jv_grammar.specs.StmtWidth.{wide_var, wide_vars, wide_local, wide_effects, wide_first, wide_optional, wide_updates, wide_block, wide_bstmts, wide_bstmt, wide_stmt}
use Rattle.jv_grammar.proofs.Shape.{shape_ty, shape_effect, shape_expr, shape_init}

shape_var : {v : VarTree} {xs ys : List Terminal} (d : DerivesVar v xs ys) → wide_var d ≤ 200 → IsShapedOption v.init
shape_var var_alone w = tt
shape_var (var_init d) w = shape_init d w

abbrev HasShape : VarTree → Type 0
HasShape v = IsShapedOption v.init

pub shape_vars : {vs : List VarTree} {xs ys : List Terminal} (d : DerivesVars vs xs ys) → wide_vars d ≤ 200 → AreShapedVars vs
shape_vars (vars_one {v} d) w = (omega arith, All-cons HasShape v [] (shape_var d w) (All-nil HasShape))
shape_vars (vars_more {v} {vs} d r) w = (omega arith, All-cons HasShape v vs (shape_var d (omega arith)) (shape_vars r (omega arith)).1)

pub shape_local : {x : StmtTree} {xs ys : List Terminal} (d : DerivesLocal x xs ys) → wide_local d ≤ 200 → IsShapedStmt x
shape_local (local_vars d r) w = (shape_ty d (omega arith), shape_vars r (omega arith))
shape_local (local_final d r) w = (shape_ty d (omega arith), shape_vars r (omega arith))

-- effects, as expressions and as statements
shape_effects : {es : ExprTrees} {xs ys : List Terminal} (d : DerivesEffects es xs ys) → wide_effects d ≤ 200 → AreUpdates es × AreShapedExprs es
shape_effects (effects_one d) w = ((shape_effect d, tt), (shape_expr d w, tt))
shape_effects (effects_more d r) w =
    let m = shape_effects r (omega arith) in
    ((shape_effect d, m.0), (shape_expr d (omega arith), m.1))

effects_are : (es : ExprTrees) → AreUpdates es → AreShapedExprs es → AreEffects (effect_stmts es) × AreShapedStmts (effect_stmts es)
effects_are t.no_exprs u h = (tt, tt)
effects_are (t.exprs e es) u h =
    let m = effects_are es u.1 h.1 in
    (m.0, ((u.0, h.0), m.1))

-- effects are no local variables, so they are the head of a `for` as they stand
head_of_effects : (es : ExprTrees) → AreEffects (effect_stmts es) → IsForHead (effect_stmts es)
head_of_effects t.no_exprs h = h
head_of_effects (t.exprs e es) h = h

shape_first : {ss : StmtTrees} {xs ys : List Terminal} (d : DerivesFirst ss xs ys) → wide_first d ≤ 200 → IsForHead ss × AreShapedStmts ss
shape_first first_none w = (tt, tt)
shape_first (first_local (local_vars d r)) w = (tt, (shape_local (local_vars d r) w, tt))
shape_first (first_local (local_final {p} d r)) w = (tt, (shape_local (local_final {p = p} d r) w, tt))
shape_first (first_effects {es} d) w =
    let m = shape_effects d w in
    let k = effects_are es m.0 m.1 in
    (head_of_effects es k.0, k.1)

shape_optional : {c : Option ExprTree} {xs ys : List Terminal} (d : DerivesOptional c xs ys) → wide_optional d ≤ 200 → IsShapedCondition c
shape_optional optional_none w = tt
shape_optional (optional_some d) w = shape_expr d w

shape_updates : {es : ExprTrees} {xs ys : List Terminal} (d : DerivesUpdates es xs ys) → wide_updates d ≤ 200 → AreUpdates es × AreShapedExprs es
shape_updates updates_none w = (tt, tt)
shape_updates (updates_some d) w = shape_effects d w

-- an `else` with an `if` behind it is one tree, and an `if` has a condition
else_body : (p : ℕ) (e : ExprTree) (x y : StmtTree) → IsBody (s.stmt p (if_else_kind e x y))
else_body p e x (s.stmt at (s.if_else bs y)) = tt
else_body p e x (s.stmt at s.empty) = tt
else_body p e x (s.stmt at s.break) = tt
else_body p e x (s.stmt at s.continue) = tt
else_body p e x (s.stmt at (s.block ss)) = tt
else_body p e x (s.stmt at (s.local f r vs)) = tt
else_body p e x (s.stmt at (s.effect y)) = tt
else_body p e x (s.stmt at (s.while_loop c y)) = tt
else_body p e x (s.stmt at (s.do_loop y c)) = tt
else_body p e x (s.stmt at (s.for_loop ss c es y)) = tt
else_body p e x (s.stmt at (s.return c)) = tt

else_shape : (e : ExprTree) (x y : StmtTree) → IsShapedExpr e → IsBody x → IsShapedStmt x → IsBody y → IsShapedStmt y → IsShapedStmtKind (if_else_kind e x y)
else_shape e x (s.stmt at (s.if_else bs y)) he bx hx by' hy = (tt, (he, bx, hx, hy.1), hy.2)
else_shape e x (s.stmt at s.empty) he bx hx by' hy = (tt, (he, bx, hx, tt), (by', hy))
else_shape e x (s.stmt at s.break) he bx hx by' hy = (tt, (he, bx, hx, tt), (by', hy))
else_shape e x (s.stmt at s.continue) he bx hx by' hy = (tt, (he, bx, hx, tt), (by', hy))
else_shape e x (s.stmt at (s.block ss)) he bx hx by' hy = (tt, (he, bx, hx, tt), (by', hy))
else_shape e x (s.stmt at (s.local f r vs)) he bx hx by' hy = absurd by'
else_shape e x (s.stmt at (s.effect y)) he bx hx by' hy = (tt, (he, bx, hx, tt), (by', hy))
else_shape e x (s.stmt at (s.while_loop c y)) he bx hx by' hy = (tt, (he, bx, hx, tt), (by', hy))
else_shape e x (s.stmt at (s.do_loop y c)) he bx hx by' hy = (tt, (he, bx, hx, tt), (by', hy))
else_shape e x (s.stmt at (s.for_loop ss c es y)) he bx hx by' hy = (tt, (he, bx, hx, tt), (by', hy))
else_shape e x (s.stmt at (s.return c)) he bx hx by' hy = (tt, (he, bx, hx, tt), (by', hy))

-- a statement that is none of local variables may be a branch or a body
shape_body : {x : StmtTree} {xs ys : List Terminal} → DerivesStmt x xs ys → IsBody x
shape_body (stmt_block d) = tt
shape_body stmt_empty = tt
shape_body (stmt_effect d) = tt
shape_body (stmt_if c d h) = tt
shape_body (stmt_if_else {e} {x} {y} {p} c d r) = else_body p e x y
shape_body (stmt_while c d) = tt
shape_body (stmt_do d c) = tt
shape_body (stmt_for i c u d) = tt
shape_body (stmt_return c) = tt
shape_body stmt_break = tt
shape_body stmt_continue = tt

mutual
  pub shape_block : {p : ℕ} {ss : StmtTrees} {xs ys : List Terminal} (d : DerivesBlock p ss xs ys) → wide_block d ≤ 200 → AreShapedStmts ss
  shape_block (block d) w = shape_bstmts d w

  pub shape_bstmts : {ss : StmtTrees} {xs ys : List Terminal} (d : DerivesBstmts ss xs ys) → wide_bstmts d ≤ 200 → AreShapedStmts ss
  shape_bstmts bstmts_none w = tt
  shape_bstmts (bstmts_more d r) w = (shape_bstmt d (omega arith), shape_bstmts r (omega arith))

  pub shape_bstmt : {x : StmtTree} {xs ys : List Terminal} (d : DerivesBstmt x xs ys) → wide_bstmt d ≤ 200 → IsShapedStmt x
  shape_bstmt (bstmt_local d) w = shape_local d w
  shape_bstmt (bstmt_stmt d) w = shape_stmt d w

  pub shape_stmt : {x : StmtTree} {xs ys : List Terminal} (d : DerivesStmt x xs ys) → wide_stmt d ≤ 200 → IsShapedStmt x
  shape_stmt (stmt_block d) w = shape_block d w
  shape_stmt stmt_empty w = tt
  shape_stmt (stmt_effect d) w = (shape_effect d, shape_expr d w)
  shape_stmt (stmt_if c d h) w = (tt, (shape_expr c (omega arith), shape_body d, shape_stmt d (omega arith), tt), tt)
  shape_stmt (stmt_if_else {e} {x} {y} c d r) w =
      else_shape e x y (shape_expr c (omega arith)) (shape_body d) (shape_stmt d (omega arith)) (shape_body r) (shape_stmt r (omega arith))
  shape_stmt (stmt_while c d) w = (shape_expr c (omega arith), shape_body d, shape_stmt d (omega arith))
  shape_stmt (stmt_do d c) w = (shape_body d, shape_stmt d (omega arith), shape_expr c (omega arith))
  shape_stmt (stmt_for i c u d) w =
      let h = shape_first i (omega arith) in
      let k = shape_updates u (omega arith) in
      (h.0, h.1, shape_optional c (omega arith), k.0, k.1, shape_body d, shape_stmt d (omega arith))
  shape_stmt (stmt_return c) w = shape_optional c w
  shape_stmt stmt_break w = tt
  shape_stmt stmt_continue w = tt
