-- Turns of the loop that reads the statements of a block.
use Rattle.std.proofs.Common.{◌≡◌, ℕ, zero, suc, ◌+◌, ◌-◌, ◌<◌, ◌≤◌, true, false, List, [], ◌∷◌, ◌++◌, length, ap, sym, ◌∙◌, refl, arith, Ok, if◌then◌else◌}
use Rattle.jv_tree.specs.declared.statement.Stmt.{Stmt}
use Rattle.jv_tree.specs.StmtTree as s
use Rattle.jv_tree.specs.StmtTree.{StmtTrees, stmt_tree, stmt_trees}
use Rattle.jv_grammar.specs.declared.terminal.Terminal.{Terminal}
use Rattle.jv_grammar.specs.Reader.{Reads, ◌>>=◌}
use Rattle.jv_grammar.specs.ExprReader.{Below}
use Rattle.jv_grammar.specs.StmtReader.{BelowStmt, bstmt_by, bstmts_up_to, bstmts_by, ends_block}
use Rattle.jv_parse_expr.specs.declared.fault.Fault.{Fault}
use Rattle.jv_parse_expr.specs.View.{Fails}
use Rattle.jv_parse_expr.proofs.Faults.{fails_bind}
use Rattle.jv_parse_stmt.proofs.VariableTurns.{stmts_onto, some_stmts, no_stmts_read, stmts_front_none, stmts_push, stmts_nil}

abbrev bstmts_turn : Below → BelowStmt → ℕ → List Terminal → Reads StmtTrees
bstmts_turn b l c xs =
    if ends_block xs then some_stmts xs s.no_stmts
    else (bstmt_by b l xs >>= λ r. bstmts_up_to b l c r.1 >>= λ q. some_stmts q.1 (s.stmts r.0 q.0))

module _ (b : Below) (l : BelowStmt) where
  bstmts_at : (c : ℕ) (xs : List Terminal) → bstmts_up_to b l (suc c) xs ≡ bstmts_turn b l c xs
  unfolding bstmts_up_to
  bstmts_at c xs = refl

  bstmts_zero : (xs : List Terminal) → bstmts_up_to b l zero xs ≡ no_stmts_read xs
  unfolding bstmts_up_to
  bstmts_zero xs = refl

  bstmts_all : (xs : List Terminal) → bstmts_up_to b l (suc (length xs)) xs ≡ bstmts_by b l xs
  unfolding bstmts_by
  bstmts_all xs = refl

  pub bstmts_begin : (items : List Stmt) (xs : List Terminal) → items ≡ [] → stmts_onto items (bstmts_up_to b l (length xs + 1 - 0) xs) ≡ bstmts_by b l xs
  bstmts_begin items xs none =
      let e : length xs + 1 - 0 ≡ suc (length xs) = omega arith in
      ap (λ is. stmts_onto is (bstmts_up_to b l (length xs + 1 - 0) xs)) none ∙ stmts_nil (bstmts_up_to b l (length xs + 1 - 0) xs) ∙ ap (λ k. bstmts_up_to b l k xs) e ∙ bstmts_all xs

  pub bstmts_over : (items : List Stmt) (n i : ℕ) (xs : List Terminal) → n ≤ i → stmts_onto items (bstmts_up_to b l (n - i) xs) ≡ no_stmts_read xs
  bstmts_over items n i xs h = let e : n - i ≡ zero = omega arith in rw (e, bstmts_zero xs) refl

  module _ (items : List Stmt) (n i : ℕ) (xs : List Terminal) (h : i < n) where
    turn : bstmts_up_to b l (n - i) xs ≡ bstmts_turn b l (n - (i + 1)) xs
    turn = let e : n - i ≡ suc (n - (i + 1)) = omega arith in ap (λ k. bstmts_up_to b l k xs) e ∙ bstmts_at (n - (i + 1)) xs

    pub bstmts_done : ends_block xs ≡ true → stmts_onto items (bstmts_up_to b l (n - i) xs) ≡ some_stmts xs (stmt_trees items)
    bstmts_done c = rw (turn, c) (ap (some_stmts xs) (stmts_front_none items))

    pub bstmts_failed : ends_block xs ≡ false → (e : Fault) → Fails e (bstmt_by b l xs) → Fails e (stmts_onto items (bstmts_up_to b l (n - i) xs))
    bstmts_failed c e f = rw (turn, c) (fails_bind e _ _ (fails_bind e (bstmt_by b l xs) _ f))

    pub bstmts_next : ends_block xs ≡ false → (x : Stmt) (ys : List Terminal) → bstmt_by b l xs ≡ Ok (stmt_tree x, ys)
        → stmts_onto (items ++ x ∷ []) (bstmts_up_to b l (n - (i + 1)) ys) ≡ stmts_onto items (bstmts_up_to b l (n - i) xs)
    bstmts_next c x ys r = stmts_push items x (bstmts_up_to b l (n - (i + 1)) ys) ∙ sym (rw (turn, c, r) refl)
