-- Turns of the loops that read variables and effects with commas between them.
use Rattle.std.proofs.Common.{◌≡◌, ℕ, zero, suc, ◌+◌, ◌-◌, ◌<◌, ◌≤◌, true, false, List, [], ◌∷◌, ◌++◌, length, ap, sym, ◌∙◌, refl, arith, Ok, Err, if◌then◌else◌}
use Rattle.jv_tree.specs.declared.expression.Expr.{Expr}
use Rattle.jv_tree.specs.declared.statement.Stmt.{Stmt}
use Rattle.jv_tree.specs.declared.type_ref.Var.{Var}
use Rattle.jv_tree.specs.ExprTree as t
use Rattle.jv_tree.specs.ExprTree.{ExprTree, ExprTrees, expr_tree, expr_trees}
use Rattle.jv_tree.specs.StmtTree as s
use Rattle.jv_tree.specs.StmtTree.{VarTree, StmtTree, StmtTrees, stmt_tree, stmt_trees, var_tree, var_trees}
use Rattle.jv_grammar.specs.declared.terminal.Terminal.{Terminal}
use Rattle.jv_grammar.specs.Marks.{comma}
use Rattle.jv_grammar.specs.TypeGrammar.{starts}
use Rattle.jv_grammar.specs.ExprGrammar.{at_of}
use Rattle.jv_grammar.specs.StmtGrammar.{effect_stmts}
use Rattle.jv_grammar.specs.Reader.{Reads, ◌>>=◌, rest_of}
use Rattle.jv_grammar.specs.ExprReader.{Below}
use Rattle.jv_grammar.specs.StmtReader.{var_by, vars_up_to, vars_by, effect_by, effects_up_to, effects_by}
use Rattle.jv_parse_expr.specs.declared.fault.Fault.{Fault}
use Rattle.jv_parse_expr.specs.View.{Fails}
use Rattle.jv_parse_stmt.specs.View.{effect_stmts_by}
use Rattle.jv_parse_expr.proofs.Faults.{fails_bind}
use Rattle.jv_parse_expr.proofs.ListTurns.{exprs_onto, exprs_front_none, exprs_front_push, exprs_push, exprs_nil, some_exprs}

-- variables
abbrev pub vars_onto : List Var → Reads (List VarTree) → Reads (List VarTree)
vars_onto front r = r >>= λ q. Ok (var_trees front ++ q.0, q.1)

abbrev pub some_vars : List Terminal → List VarTree → Reads (List VarTree)
some_vars ys vs = Ok (vs, ys)

abbrev no_vars : List Terminal → Reads (List VarTree)
no_vars xs = Err xs

vars_front_none : (xs : List Var) → var_trees xs ++ [] ≡ var_trees xs
vars_front_none [] = refl
vars_front_none (x ∷ xs) = ap (λ vs. var_tree x ∷ vs) (vars_front_none xs)

vars_front_push : (xs : List Var) (x : Var) (vs : List VarTree) → var_trees (xs ++ x ∷ []) ++ vs ≡ var_trees xs ++ var_tree x ∷ vs
vars_front_push [] x vs = refl
vars_front_push (y ∷ xs) x vs = ap (λ vs. var_tree y ∷ vs) (vars_front_push xs x vs)

vars_push : (xs : List Var) (x : Var) (r : Reads (List VarTree)) → vars_onto (xs ++ x ∷ []) r ≡ vars_onto xs (r >>= λ q. some_vars q.1 (var_tree x ∷ q.0))
vars_push xs x (Ok q) = ap (some_vars q.1) (vars_front_push xs x q.0)
vars_push xs x (Err e) = refl

vars_nil : (r : Reads (List VarTree)) → vars_onto [] r ≡ r
vars_nil (Ok q) = refl
vars_nil (Err e) = refl

abbrev vars_turn : Below → ℕ → List Terminal → Reads (List VarTree)
vars_turn b c xs = var_by b xs >>= λ r.
    if starts comma r.1
    then (vars_up_to b c (rest_of r.1) >>= λ q. some_vars q.1 (r.0 ∷ q.0))
    else some_vars r.1 (r.0 ∷ [])

vars_at : (b : Below) (c : ℕ) (xs : List Terminal) → vars_up_to b (suc c) xs ≡ vars_turn b c xs
unfolding vars_up_to
vars_at b c xs = refl

vars_zero : (b : Below) (xs : List Terminal) → vars_up_to b zero xs ≡ no_vars xs
unfolding vars_up_to
vars_zero b xs = refl

vars_all : (b : Below) (xs : List Terminal) → vars_up_to b (length xs) xs ≡ vars_by b xs
unfolding vars_by
vars_all b xs = refl

pub vars_begin : (b : Below) (items : List Var) (xs : List Terminal) → items ≡ [] → vars_onto items (vars_up_to b (length xs - 0) xs) ≡ vars_by b xs
vars_begin b items xs none =
    let e : length xs - 0 ≡ length xs = omega arith in
    ap (λ l. vars_onto l (vars_up_to b (length xs - 0) xs)) none ∙ vars_nil (vars_up_to b (length xs - 0) xs) ∙ ap (λ k. vars_up_to b k xs) e ∙ vars_all b xs

pub vars_over : (b : Below) (items : List Var) (n i : ℕ) (xs : List Terminal) → n ≤ i → vars_onto items (vars_up_to b (n - i) xs) ≡ no_vars xs
vars_over b items n i xs h = let e : n - i ≡ zero = omega arith in rw (e, vars_zero b xs) refl

module _ (b : Below) (items : List Var) (n i : ℕ) (xs : List Terminal) (h : i < n) where
  var_turn : vars_up_to b (n - i) xs ≡ vars_turn b (n - (i + 1)) xs
  var_turn = let e : n - i ≡ suc (n - (i + 1)) = omega arith in ap (λ k. vars_up_to b k xs) e ∙ vars_at b (n - (i + 1)) xs

  pub vars_failed : (e : Fault) → Fails e (var_by b xs) → Fails e (vars_onto items (vars_up_to b (n - i) xs))
  vars_failed e f = rw var_turn (fails_bind e _ _ (fails_bind e (var_by b xs) _ f))

  pub vars_done : (x : Var) (ys : List Terminal) → var_by b xs ≡ Ok (var_tree x, ys) → starts comma ys ≡ false
      → vars_onto items (vars_up_to b (n - i) xs) ≡ some_vars ys (var_trees (items ++ x ∷ []))
  vars_done x ys r c = rw (var_turn, r, c) (ap (some_vars ys) (sym (vars_front_push items x []) ∙ vars_front_none (items ++ x ∷ [])))

  pub vars_next : (x : Var) (ys zs : List Terminal) → var_by b xs ≡ Ok (var_tree x, ys) → starts comma ys ≡ true → zs ≡ rest_of ys
      → vars_onto (items ++ x ∷ []) (vars_up_to b (n - (i + 1)) zs) ≡ vars_onto items (vars_up_to b (n - i) xs)
  vars_next x ys zs r c at = vars_push items x (vars_up_to b (n - (i + 1)) zs) ∙ sym (rw (var_turn, r, c, ← at) refl)

-- effects
abbrev no_effects : List Terminal → Reads ExprTrees
no_effects xs = Err xs

abbrev effects_turn : Below → ℕ → List Terminal → Reads ExprTrees
effects_turn b c xs = effect_by b xs >>= λ r.
    if starts comma r.1
    then (effects_up_to b c (rest_of r.1) >>= λ q. some_exprs q.1 (t.exprs r.0 q.0))
    else some_exprs r.1 (t.exprs r.0 t.no_exprs)

effects_at : (b : Below) (c : ℕ) (xs : List Terminal) → effects_up_to b (suc c) xs ≡ effects_turn b c xs
unfolding effects_up_to
effects_at b c xs = refl

effects_zero : (b : Below) (xs : List Terminal) → effects_up_to b zero xs ≡ no_effects xs
unfolding effects_up_to
effects_zero b xs = refl

effects_all : (b : Below) (xs : List Terminal) → effects_up_to b (length xs) xs ≡ effects_by b xs
unfolding effects_by
effects_all b xs = refl

pub effects_begin : (b : Below) (items : List Expr) (xs : List Terminal) → items ≡ [] → exprs_onto items (effects_up_to b (length xs - 0) xs) ≡ effects_by b xs
effects_begin b items xs none =
    let e : length xs - 0 ≡ length xs = omega arith in
    ap (λ l. exprs_onto l (effects_up_to b (length xs - 0) xs)) none ∙ exprs_nil (effects_up_to b (length xs - 0) xs) ∙ ap (λ k. effects_up_to b k xs) e ∙ effects_all b xs

pub effects_over : (b : Below) (items : List Expr) (n i : ℕ) (xs : List Terminal) → n ≤ i → exprs_onto items (effects_up_to b (n - i) xs) ≡ no_effects xs
effects_over b items n i xs h = let e : n - i ≡ zero = omega arith in rw (e, effects_zero b xs) refl

module _ (b : Below) (n i : ℕ) (xs : List Terminal) (h : i < n) where
  effect_turn : effects_up_to b (n - i) xs ≡ effects_turn b (n - (i + 1)) xs
  effect_turn = let e : n - i ≡ suc (n - (i + 1)) = omega arith in ap (λ k. effects_up_to b k xs) e ∙ effects_at b (n - (i + 1)) xs

module _ (b : Below) (items : List Expr) (n i : ℕ) (xs : List Terminal) (h : i < n) where
  pub effects_failed : (e : Fault) → Fails e (effect_by b xs) → Fails e (exprs_onto items (effects_up_to b (n - i) xs))
  effects_failed e f = rw (effect_turn b n i xs h) (fails_bind e _ _ (fails_bind e (effect_by b xs) _ f))

  pub effects_done : (x : Expr) (ys : List Terminal) → effect_by b xs ≡ Ok (expr_tree x, ys) → starts comma ys ≡ false
      → exprs_onto items (effects_up_to b (n - i) xs) ≡ some_exprs ys (expr_trees (items ++ x ∷ []))
  effects_done x ys r c = rw (effect_turn b n i xs h, r, c) (ap (some_exprs ys) (sym (exprs_front_push items x t.no_exprs) ∙ exprs_front_none (items ++ x ∷ [])))

  pub effects_next : (x : Expr) (ys zs : List Terminal) → effect_by b xs ≡ Ok (expr_tree x, ys) → starts comma ys ≡ true → zs ≡ rest_of ys
      → exprs_onto (items ++ x ∷ []) (effects_up_to b (n - (i + 1)) zs) ≡ exprs_onto items (effects_up_to b (n - i) xs)
  effects_next x ys zs r c at = exprs_push items x (effects_up_to b (n - (i + 1)) zs) ∙ sym (rw (effect_turn b n i xs h, r, c, ← at) refl)

-- statements that are read already, in front of those that are read behind them
abbrev pub stmts_front : List Stmt → StmtTrees → StmtTrees
stmts_front [] ss = ss
stmts_front (x ∷ xs) ss = s.stmts (stmt_tree x) (stmts_front xs ss)

abbrev pub stmts_onto : List Stmt → Reads StmtTrees → Reads StmtTrees
stmts_onto front r = r >>= λ q. Ok (stmts_front front q.0, q.1)

abbrev pub some_stmts : List Terminal → StmtTrees → Reads StmtTrees
some_stmts ys ss = Ok (ss, ys)

abbrev pub no_stmts_read : List Terminal → Reads StmtTrees
no_stmts_read xs = Err xs

pub stmts_front_none : (xs : List Stmt) → stmts_front xs s.no_stmts ≡ stmt_trees xs
stmts_front_none [] = refl
stmts_front_none (x ∷ xs) = ap (s.stmts (stmt_tree x)) (stmts_front_none xs)

pub stmts_front_push : (xs : List Stmt) (x : Stmt) (ss : StmtTrees) → stmts_front (xs ++ x ∷ []) ss ≡ stmts_front xs (s.stmts (stmt_tree x) ss)
stmts_front_push [] x ss = refl
stmts_front_push (y ∷ xs) x ss = ap (s.stmts (stmt_tree y)) (stmts_front_push xs x ss)

pub stmts_push : (xs : List Stmt) (x : Stmt) (r : Reads StmtTrees) → stmts_onto (xs ++ x ∷ []) r ≡ stmts_onto xs (r >>= λ q. some_stmts q.1 (s.stmts (stmt_tree x) q.0))
stmts_push xs x (Ok q) = ap (some_stmts q.1) (stmts_front_push xs x q.0)
stmts_push xs x (Err e) = refl

pub stmts_nil : (r : Reads StmtTrees) → stmts_onto [] r ≡ r
stmts_nil (Ok q) = refl
stmts_nil (Err e) = refl

-- effects as statements
abbrev pub as_stmts : Reads ExprTrees → Reads StmtTrees
as_stmts r = r >>= λ q. some_stmts q.1 (effect_stmts q.0)

abbrev effect_stmt : ExprTree → StmtTree
effect_stmt e = s.stmt (at_of e) (s.effect e)

as_stmts_more : (e : ExprTree) (r : Reads ExprTrees) → as_stmts (r >>= λ q. some_exprs q.1 (t.exprs e q.0)) ≡ (as_stmts r >>= λ q. some_stmts q.1 (s.stmts (effect_stmt e) q.0))
as_stmts_more e (Ok q) = refl
as_stmts_more e (Err z) = refl

effect_stmts_all : (b : Below) (xs : List Terminal) → as_stmts (effects_up_to b (length xs) xs) ≡ effect_stmts_by b xs
effect_stmts_all b xs = ap as_stmts (effects_all b xs)

pub effect_stmts_begin : (b : Below) (items : List Stmt) (xs : List Terminal) → items ≡ [] → stmts_onto items (as_stmts (effects_up_to b (length xs - 0) xs)) ≡ effect_stmts_by b xs
effect_stmts_begin b items xs none =
    let e : length xs - 0 ≡ length xs = omega arith in
    ap (λ l. stmts_onto l (as_stmts (effects_up_to b (length xs - 0) xs))) none
    ∙ stmts_nil (as_stmts (effects_up_to b (length xs - 0) xs))
    ∙ ap (λ k. as_stmts (effects_up_to b k xs)) e
    ∙ effect_stmts_all b xs

pub effect_stmts_over : (b : Below) (items : List Stmt) (n i : ℕ) (xs : List Terminal) → n ≤ i → stmts_onto items (as_stmts (effects_up_to b (n - i) xs)) ≡ no_stmts_read xs
effect_stmts_over b items n i xs h = let e : n - i ≡ zero = omega arith in rw (e, effects_zero b xs) refl

module _ (b : Below) (items : List Stmt) (n i : ℕ) (xs : List Terminal) (h : i < n) where
  pub effect_stmts_failed : (e : Fault) → Fails e (effect_by b xs) → Fails e (stmts_onto items (as_stmts (effects_up_to b (n - i) xs)))
  effect_stmts_failed e f = rw (effect_turn b n i xs h) (fails_bind e _ _ (fails_bind e _ _ (fails_bind e (effect_by b xs) _ f)))

  module _ (x : Expr) (y : Stmt) (ys : List Terminal) (r : effect_by b xs ≡ Ok (expr_tree x, ys)) (is : stmt_tree y ≡ effect_stmt (expr_tree x)) where
    pub effect_stmts_done : starts comma ys ≡ false → stmts_onto items (as_stmts (effects_up_to b (n - i) xs)) ≡ some_stmts ys (stmt_trees (items ++ y ∷ []))
    effect_stmts_done c =
        rw (effect_turn b n i xs h, r, c)
        (ap (λ (z : StmtTree). some_stmts ys (stmts_front items (s.stmts z s.no_stmts))) (sym is)
        ∙ ap (some_stmts ys) (sym (stmts_front_push items y s.no_stmts) ∙ stmts_front_none (items ++ y ∷ [])))

    pub effect_stmts_next : (zs : List Terminal) → starts comma ys ≡ true → zs ≡ rest_of ys
        → stmts_onto (items ++ y ∷ []) (as_stmts (effects_up_to b (n - (i + 1)) zs)) ≡ stmts_onto items (as_stmts (effects_up_to b (n - i) xs))
    effect_stmts_next zs c at =
        stmts_push items y (as_stmts (effects_up_to b (n - (i + 1)) zs))
        ∙ ap (λ (z : StmtTree). stmts_onto items (as_stmts (effects_up_to b (n - (i + 1)) zs) >>= λ q. some_stmts q.1 (s.stmts z q.0))) is
        ∙ sym (rw (effect_turn b n i xs h, r, c, ← at) (ap (stmts_onto items) (as_stmts_more (expr_tree x) (effects_up_to b (n - (i + 1)) zs))))
