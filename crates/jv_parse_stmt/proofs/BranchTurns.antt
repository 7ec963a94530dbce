-- Turns of the loop that reads the branches of an `if`.
use Rattle.std.proofs.Common.{◌≡◌, ℕ, suc, Bool, true, false, List, [], ◌∷◌, ◌++◌, ap, sym, ◌∙◌, subst, refl, true≢false, Ok, Err, if◌then◌else◌}
use Rattle.jv_tree.specs.declared.expression.Expr.{Expr}
use Rattle.jv_tree.specs.declared.statement.Stmt.{Stmt}
use Rattle.jv_tree.specs.ExprTree.{ExprTree, expr_tree}
use Rattle.jv_tree.specs.StmtTree as s
use Rattle.jv_tree.specs.StmtTree.{StmtTree, BranchTrees, ElseTree, stmt_tree, branch_trees}
use Rattle.jv_grammar.specs.declared.terminal.Terminal.{Terminal}
use Rattle.jv_grammar.specs.declared.terminal.Terminal.TheVariants.{Keyword}
use Rattle.jv_grammar.specs.Marks.{word_else, word_if}
use Rattle.jv_grammar.specs.TypeGrammar.{starts_word}
use Rattle.jv_grammar.specs.StmtGrammar.{DerivesStmt, stmt_block, stmt_empty, stmt_effect, stmt_if, stmt_if_else, stmt_while, stmt_do, stmt_for, stmt_return, stmt_break, stmt_continue, if_else_kind}
use Rattle.jv_grammar.specs.Reader.{Reads, ◌>>=◌, rest_of}
use Rattle.jv_grammar.specs.ExprReader.{Below, below}
use Rattle.jv_grammar.specs.StmtReader.{BelowStmt, below_stmt, paren_by, if_by, word_by, stmt_by}
use Rattle.jv_grammar.proofs.StmtSound.{sound_stmt, starts_word_is}
use Rattle.jv_parse_expr.specs.declared.fault.Fault.{Fault}
use Rattle.jv_parse_expr.specs.View.{Fails}
use Rattle.jv_parse_stmt.specs.View.{Branching, alone, with_else, guarded_by, branches_by}
use Rattle.jv_parse_expr.proofs.Faults.{fails_bind}

abbrev pub with_last : ElseTree → BranchTrees → Branching
with_last y bs = (bs, y)

abbrev pub some_branches : List Terminal → Branching → Reads Branching
some_branches ys r = Ok (r, ys)

abbrev no_branches_read : List Terminal → Reads Branching
no_branches_read xs = Err xs

abbrev no_stmt : List Terminal → Reads StmtTree
no_stmt xs = Err xs

abbrev some_stmt : List Terminal → StmtTree → Reads StmtTree
some_stmt ys x = Ok (x, ys)

abbrev some_guarded : List Terminal → ExprTree → StmtTree → Reads (ExprTree × StmtTree)
some_guarded ys e x = Ok ((e, x), ys)

-- the statement of branches, at p
abbrev if_stmt : ℕ → Reads Branching → Reads StmtTree
if_stmt p r = r >>= λ q. some_stmt q.1 (s.stmt p (s.if_else q.0.0 q.0.1))

-- a branch with what stands behind its `else`
abbrev else_onto : ExprTree → StmtTree → Reads StmtTree → Reads Branching
else_onto e x r = r >>= λ u. some_branches u.1 (with_else e x u.0)

kind_is : (e : ExprTree) (x y : StmtTree) → if_else_kind e x y ≡ s.if_else (with_else e x y).0 (with_else e x y).1
kind_is e x (s.stmt p (s.block ss)) = refl
kind_is e x (s.stmt p s.empty) = refl
kind_is e x (s.stmt p (s.local f r vs)) = refl
kind_is e x (s.stmt p (s.effect c)) = refl
kind_is e x (s.stmt p (s.if_else bs y)) = refl
kind_is e x (s.stmt p (s.while_loop c y)) = refl
kind_is e x (s.stmt p (s.do_loop y c)) = refl
kind_is e x (s.stmt p (s.for_loop ss c es y)) = refl
kind_is e x (s.stmt p (s.return c)) = refl
kind_is e x (s.stmt p s.break) = refl
kind_is e x (s.stmt p s.continue) = refl

-- what stands behind a branch
abbrev branches_behind : BelowStmt → (ExprTree × StmtTree) × List Terminal → Reads Branching
branches_behind l r =
    if starts_word word_else r.1
    then else_onto r.0.0 r.0.1 (l.stmt (rest_of r.1))
    else some_branches r.1 (alone r.0.0 r.0.1 s.no_else)

-- an `if` is the statement of its branches
module _ (p : ℕ) (l : BelowStmt) where
  else_is : (e : ExprTree) (x : StmtTree) (c : Bool) (u : Reads StmtTree) (ys : List Terminal)
      → (if c then (u >>= λ u. some_stmt u.1 (s.stmt p (if_else_kind e x u.0))) else some_stmt ys (s.stmt p (s.if_else (s.branches e x s.no_branches) s.no_else)))
      ≡ if_stmt p (if c then else_onto e x u else some_branches ys (alone e x s.no_else))
  else_is e x true (Ok u) ys = ap (λ k. some_stmt u.1 (s.stmt p k)) (kind_is e x u.0)
  else_is e x true (Err z) ys = refl
  else_is e x false u ys = refl

  abbrev behind_guarded : ExprTree → StmtTree × List Terminal → Reads StmtTree
  behind_guarded e q =
      if starts_word word_else q.1
      then (l.stmt (rest_of q.1) >>= λ u. some_stmt u.1 (s.stmt p (if_else_kind e q.0 u.0)))
      else some_stmt q.1 (s.stmt p (s.if_else (s.branches e q.0 s.no_branches) s.no_else))

  body_is : (e : ExprTree) (q : Reads StmtTree) → (q >>= behind_guarded e) ≡ if_stmt p ((q >>= λ q. some_guarded q.1 e q.0) >>= branches_behind l)
  body_is e (Ok q) = else_is e q.0 (starts_word word_else q.1) (l.stmt (rest_of q.1)) q.1
  body_is e (Err z) = refl

  test_is : (r : Reads ExprTree) → (r >>= λ r. l.stmt r.1 >>= behind_guarded r.0) ≡ if_stmt p ((r >>= λ r. l.stmt r.1 >>= λ q. some_guarded q.1 r.0 q.0) >>= branches_behind l)
  test_is (Ok r) = body_is r.0 (l.stmt r.1)
  test_is (Err z) = refl

  if_is : (b : Below) (xs : List Terminal) → if_by b l p xs ≡ if_stmt p (branches_by b l xs)
  unfolding if_by
  if_is b xs = test_is (paren_by b xs)

  pub if_failed : (b : Below) (xs : List Terminal) (e : Fault) → Fails e (branches_by b l xs) → Fails e (if_by b l p xs)
  if_failed b xs e f = subst (λ (z : Reads StmtTree). Fails e z) (sym (if_is b xs)) (fails_bind e (branches_by b l xs) _ f)

  pub if_read : (b : Below) (xs ys : List Terminal) (bs : BranchTrees) (y : ElseTree) (z : StmtTree)
      → branches_by b l xs ≡ some_branches ys (with_last y bs) → z ≡ s.stmt p (s.if_else bs y) → if_by b l p xs ≡ some_stmt ys z
  if_read b xs ys bs y z g is = if_is b xs ∙ ap (if_stmt p) g ∙ ap (some_stmt ys) (sym is)

-- what begins with no `if` is none
no_if : {y : StmtTree} {xs ys : List Terminal} → DerivesStmt y xs ys → starts_word word_if xs ≡ false → (e : ExprTree) (x : StmtTree) → with_else e x y ≡ alone e x (s.otherwise y)
no_if (stmt_block d) h e x = refl
no_if stmt_empty h e x = refl
no_if (stmt_effect d) h e x = refl
no_if (stmt_if d g n) h e x = absurd (true≢false h)
no_if (stmt_if_else d g k) h e x = absurd (true≢false h)
no_if (stmt_while d g) h e x = refl
no_if (stmt_do g d) h e x = refl
no_if (stmt_for f c u g) h e x = refl
no_if (stmt_return c) h e x = refl
no_if stmt_break h e x = refl
no_if stmt_continue h e x = refl

-- branches that are read already, in front of those that are read behind them
abbrev pub branches_front : List (Expr × Stmt) → BranchTrees → BranchTrees
branches_front [] bs = bs
branches_front (x ∷ xs) bs = s.branches (expr_tree x.0) (stmt_tree x.1) (branches_front xs bs)

abbrev fronted : List (Expr × Stmt) → Branching → Branching
fronted front r = (branches_front front r.0, r.1)

abbrev pub branches_onto : List (Expr × Stmt) → Reads Branching → Reads Branching
branches_onto front r = r >>= λ q. Ok (fronted front q.0, q.1)

front_none : (xs : List (Expr × Stmt)) → branches_front xs s.no_branches ≡ branch_trees xs
front_none [] = refl
front_none (x ∷ xs) = ap (s.branches (expr_tree x.0) (stmt_tree x.1)) (front_none xs)

front_push : (xs : List (Expr × Stmt)) (x : Expr × Stmt) (bs : BranchTrees) → branches_front (xs ++ x ∷ []) bs ≡ branches_front xs (s.branches (expr_tree x.0) (stmt_tree x.1) bs)
front_push [] x bs = refl
front_push (y ∷ xs) x bs = ap (s.branches (expr_tree y.0) (stmt_tree y.1)) (front_push xs x bs)

-- a last branch behind those that are read already
last_push : (xs : List (Expr × Stmt)) (x : Expr × Stmt) (y : ElseTree) → fronted xs (alone (expr_tree x.0) (stmt_tree x.1) y) ≡ with_last y (branch_trees (xs ++ x ∷ []))
last_push xs x y = ap (with_last y) (sym (front_push xs x s.no_branches) ∙ front_none (xs ++ x ∷ []))

-- the branches of a further `if` behind those that are read already
more_push : (xs : List (Expr × Stmt)) (x : Expr × Stmt) (p : ℕ) (r : Reads Branching)
    → branches_onto (xs ++ x ∷ []) r ≡ branches_onto xs (else_onto (expr_tree x.0) (stmt_tree x.1) (if_stmt p r))
more_push xs x p (Ok q) = ap (λ bs. some_branches q.1 (with_last q.0.1 bs)) (front_push xs x q.0.0)
more_push xs x p (Err z) = refl

abbrev pub branches_at : ℕ → List Terminal → Reads Branching
branches_at n xs = branches_by (below n) (below_stmt n) xs

stmt_zero : (xs : List Terminal) → (below_stmt 0).stmt xs ≡ no_stmt xs
unfolding below_stmt
stmt_zero xs = refl

-- an `if` one level deeper
stmt_suc : (n q : ℕ) (xs : List Terminal) → (below_stmt (suc n)).stmt (Keyword q word_if ∷ xs) ≡ if_by (below n) (below_stmt n) q xs
unfolding below_stmt stmt_by word_by
stmt_suc n q xs = refl

module _ (n : ℕ) (items : List (Expr × Stmt)) (xs : List Terminal) where
  module _ (x : Expr × Stmt) (ys : List Terminal) (r : guarded_by (below n) (below_stmt n) xs ≡ some_guarded ys (expr_tree x.0) (stmt_tree x.1)) where
    turn : branches_onto items (branches_at n xs) ≡ branches_onto items (branches_behind (below_stmt n) ((expr_tree x.0, stmt_tree x.1), ys))
    turn = ap (λ (g : Reads (ExprTree × StmtTree)). branches_onto items (g >>= branches_behind (below_stmt n))) r

    pub branches_done : starts_word word_else ys ≡ false → branches_onto items (branches_at n xs) ≡ some_branches ys (with_last s.no_else (branch_trees (items ++ x ∷ [])))
    branches_done c = turn ∙ rw c (ap (some_branches ys) (last_push items x s.no_else))

    module _ (zs : List Terminal) (c : starts_word word_else ys ≡ true) (at : zs ≡ rest_of ys) where
      else_turn : branches_onto items (branches_at n xs) ≡ branches_onto items (else_onto (expr_tree x.0) (stmt_tree x.1) ((below_stmt n).stmt zs))
      else_turn = turn ∙ rw (c, ← at) refl

      module _ (g : Reads StmtTree) (k : (below_stmt n).stmt zs ≡ g) where
        pub else_read : branches_onto items (branches_at n xs) ≡ branches_onto items (else_onto (expr_tree x.0) (stmt_tree x.1) g)
        else_read = else_turn ∙ ap (λ z. branches_onto items (else_onto (expr_tree x.0) (stmt_tree x.1) z)) k

      pub last_read : (y : Stmt) (ws : List Terminal) → (below_stmt n).stmt zs ≡ some_stmt ws (stmt_tree y) → starts_word word_if zs ≡ false
          → branches_onto items (branches_at n xs) ≡ some_branches ws (with_last (s.otherwise (stmt_tree y)) (branch_trees (items ++ x ∷ [])))
      last_read y ws g other =
          let d = (sound_stmt n).stmt zs (stmt_tree y, ws) g in
          else_read (some_stmt ws (stmt_tree y)) g
          ∙ ap (λ (z : Branching). some_branches ws (fronted items z)) (no_if d.0 other (expr_tree x.0) (stmt_tree x.1))
          ∙ ap (some_branches ws) (last_push items x (s.otherwise (stmt_tree y)))

      pub too_deep : n ≡ 0 → branches_onto items (branches_at n xs) ≡ no_branches_read zs
      too_deep z = else_read (no_stmt zs) (ap (λ (m : ℕ). (below_stmt m).stmt zs) z ∙ stmt_zero zs)

      pub branches_next : (m : ℕ) (ws : List Terminal) → n ≡ suc m → starts_word word_if zs ≡ true → ws ≡ rest_of zs
          → branches_onto (items ++ x ∷ []) (branches_at m ws) ≡ branches_onto items (branches_at n xs)
      branches_next m ws e i at' =
          let k = starts_word_is word_if zs i in
          more_push items x k.0 (branches_at m ws)
          ∙ sym (else_read (if_stmt k.0 (branches_at m ws))
          (ap (λ (m : ℕ). (below_stmt m).stmt zs) e
          ∙ ap (λ (ts : List Terminal). (below_stmt (suc m)).stmt ts) (k.1 ∙ ap (λ (ts : List Terminal). Keyword k.0 word_if ∷ ts) (sym at'))
          ∙ stmt_suc m k.0 ws
          ∙ if_is k.0 (below_stmt m) (below m) ws))
