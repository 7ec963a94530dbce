-- What begins a statement or a block is read to its end, at each depth of nesting.
use Rattle.std.proofs.Common.{◌≡◌, ℕ, zero, suc, ◌<◌, ◌≤◌, Bool, true, false, List, [], ◌∷◌, length, Option, arith, refl, sym, ap, subst, lit<}
use Rattle.jv_tree.specs.ExprTree.{ExprTree}
use Rattle.jv_tree.specs.StmtTree.{StmtTrees}
use Rattle.jv_grammar.specs.declared.terminal.Terminal.{Terminal}
use Rattle.jv_grammar.specs.declared.terminal.Terminal.TheVariants.{Punct}
use Rattle.jv_grammar.specs.declared.form.Form.{Form}
use Rattle.jv_grammar.specs.Marks.{paren_open, paren_close, semicolon}
use Rattle.jv_grammar.specs.ExprGrammar.{DerivesExpr}
use Rattle.jv_grammar.specs.StmtGrammar.{DerivesFirst, DerivesOptional, block}
use Rattle.jv_grammar.specs.ExprReader.{Below, expr_of, below}
use Rattle.jv_grammar.specs.StmtReader.{BelowStmt, local_by, effect_by, first_by, optional_by, updates_by, paren_by, block_by, effect_stmt_by, if_by, while_by, do_by, for_head_by, for_by, return_by, word_by, stmt_by, begins_local, bstmt_by, bstmts_up_to, bstmts_by, below_stmt}
use Rattle.jv_grammar.specs.ExprBegins.{begun_expr_none}
use Rattle.jv_grammar.specs.StmtBegins.{BeginsLocal, BeginsBlock, begun_block_none, begun_block_some, begun_block_whole, BeginsBstmts, begun_bstmts_none, begun_bstmts_one, begun_bstmts_more, begun_bstmts_whole, BeginsBstmt, begun_bstmt_none, begun_bstmt_local, begun_bstmt_stmt, begun_bstmt_whole, BeginsStmt, begun_stmt_none, begun_stmt_block, begun_stmt_effect, begun_stmt_if, begun_stmt_if_test, begun_stmt_if_then, begun_stmt_if_else, begun_stmt_while, begun_stmt_while_test, begun_stmt_while_body, begun_stmt_do, begun_stmt_do_while, begun_stmt_do_test, begun_stmt_do_close, begun_stmt_for, begun_stmt_for_first, begun_stmt_for_test, begun_stmt_for_updates, begun_stmt_for_body, begun_stmt_return, begun_stmt_break, begun_stmt_continue, begun_stmt_whole}
use Rattle.jv_grammar.proofs.BegunDepth.{begun_deep_local, begun_deep_block, begun_deep_bstmts, begun_deep_bstmt, begun_deep_stmt}
use Rattle.jv_grammar.proofs.Rows.{HasShortRows}
use Rattle.jv_grammar.proofs.Ending.{left_of, Ends}
use Rattle.jv_grammar.proofs.GoesLaw.{GoesBelow, GoesBelowStmt, GoesBlock, GoesStmt, GoesBstmt, GoesBstmts, StatementsGo}
use Rattle.jv_grammar.proofs.Depth.{deep_expr}
use Rattle.jv_grammar.proofs.StmtDepth.{deep_first, deep_optional, less_bstmt}
use Rattle.jv_grammar.proofs.Few.{closed_expr}
use Rattle.jv_grammar.proofs.StmtFew.{closed_first, closed_optional, closed_updates, closed_bstmt, closed_stmt, few_first, few_optional, few_updates, few_block, few_bstmts, few_bstmt, few_stmt}
use Rattle.jv_grammar.proofs.Complete.{Comp, comp, c_expr}
use Rattle.jv_grammar.proofs.StmtStarts.{bstmt_goes_on}
use Rattle.jv_grammar.proofs.StmtComplete.{got_effect, CompStmt, comp_stmt, c_first, c_optional, c_for_head, c_block, c_stmt, c_bstmt, c_bstmts_up_to}
use Rattle.jv_grammar.proofs.Goes.{ends_bind}
use Rattle.jv_grammar.proofs.BegunRows.{few_rows, rows_behind, low_expr}
use Rattle.jv_grammar.proofs.BegunStarts.{IsBegunStart, begun_expr}
use Rattle.jv_grammar.proofs.BegunStmtStarts.{begun_to_effect, stmt_no_local, bstmt_apart}
use Rattle.jv_grammar.proofs.GoesUnaries.{GoesBracket}
use Rattle.jv_grammar.proofs.GoesExpressions.{goes_expr, both_go}
use Rattle.jv_grammar.proofs.GoesLocals.{locals_go, effect_ends, local_expressed, first_go, optional_go, updates_go}

module _ (n : ℕ) (b : Below) (c : Comp n b) (g : GoesBelow n b) (o : GoesBracket n b) where
  -- an expression in parentheses
  paren_none : Ends (paren_by b [])
  unfolding paren_by
  paren_none = refl

  paren_ends : (p : ℕ) (xs : List Terminal) → Ends (expr_of b xs) → Ends (paren_by b (Punct p paren_open ∷ xs))
  unfolding paren_by
  paren_ends p xs h = ends_bind (expr_of b xs) _ h (λ x. refl)

  reads_paren : (p : ℕ) {f : Form} {e : ExprTree} {q : ℕ} {xs zs : List Terminal} (d : DerivesExpr f e xs (Punct q paren_close ∷ zs)) → deep_expr d ≤ n → HasShortRows xs → paren_by b (Punct p paren_open ∷ xs) ≡ got_effect e zs
  unfolding paren_by
  reads_paren p d l h = rw (c_expr n b c d l (low_expr h d) (lit< tt)) refl

  effect_stmt_ends : (xs : List Terminal) → Ends (expr_of b xs) → Ends (effect_stmt_by b xs)
  unfolding effect_stmt_by
  effect_stmt_ends xs h = ends_bind (effect_by b xs) _ (effect_ends n b c g o xs h) (λ x. refl)

  expressed_stmt : (l : BelowStmt) (xs : List Terminal) → IsBegunStart xs → Ends (expr_of b xs) → Ends (stmt_by b l xs)
  expressed_stmt l xs s h = subst Ends (sym (begun_to_effect b l xs s)) (effect_stmt_ends xs h)

  none_expr : Ends (expr_of b [])
  none_expr = goes_expr n b c g o [] begun_expr_none (omega arith) tt

  -- the head of a `for`, in its parentheses
  head_none : Ends (for_head_by b [])
  unfolding for_head_by
  head_none = refl

  head_first : (p : ℕ) (xs : List Terminal) → Ends (first_by b xs) → Ends (for_head_by b (Punct p paren_open ∷ xs))
  unfolding for_head_by
  head_first p xs h = ends_bind (first_by b xs) _ h (λ x. refl)

  head_test : (p : ℕ) {ss : StmtTrees} {u : ℕ} {xs zs : List Terminal} (i : DerivesFirst ss xs (Punct u semicolon ∷ zs)) → deep_first i ≤ n → HasShortRows xs → Ends (optional_by b zs) → Ends (for_head_by b (Punct p paren_open ∷ xs))
  unfolding for_head_by
  head_test p {xs} {zs} i l h k = rw (c_first n b c i l (few_first (few_rows xs h) i)) (ends_bind (optional_by b zs) _ k (λ x. refl))

  head_updates : (p : ℕ) {ss : StmtTrees} {e : Option ExprTree} {u v : ℕ} {xs zs ws : List Terminal} (i : DerivesFirst ss xs (Punct u semicolon ∷ zs)) (t : DerivesOptional e zs (Punct v semicolon ∷ ws))
      → deep_first i ≤ n → deep_optional t ≤ n → HasShortRows xs → Ends (updates_by b ws) → Ends (for_head_by b (Punct p paren_open ∷ xs))
  unfolding for_head_by
  head_updates p {xs} {zs} {ws} i t l l' h k =
      rw (c_first n b c i l (few_first (few_rows xs h) i)) (rw (c_optional n b c t l' (few_optional (few_rows zs (rows_behind (closed_first i) h).1) t)) (ends_bind (updates_by b ws) _ k (λ x. refl)))

module _ (n : ℕ) (b : Below) (c : Comp n b) (g : GoesBelow n b) (o : GoesBracket n b) (l : BelowStmt) (m : CompStmt n l) (w : GoesBelowStmt n l) where
  pub block_goes : GoesBlock n l
  unfolding block_by
  block_goes vs begun_block_none k h = refl
  block_goes vs (begun_block_some {xs} r) k h = ends_bind (l.bstmts xs) _ (w.bstmts r k h.1) (λ x. refl)
  block_goes vs (begun_block_whole d) k h = ap left_of (c_block n b c l m d k (few_block (few_rows vs h) d))

  block_stmt : (xs : List Terminal) (d : BeginsBlock xs) → begun_deep_block d ≤ n → HasShortRows xs → Ends (stmt_by b l xs)
  unfolding stmt_by
  block_stmt vs begun_block_none k h = expressed_stmt n b c g o l [] tt (none_expr n b c g o)
  block_stmt vs (begun_block_some {p} {xs} r) k h = ends_bind (block_by l vs) _ (block_goes vs (begun_block_some {p = p} r) k h) (λ x. refl)
  block_stmt vs (begun_block_whole (block {p} d)) k h = ends_bind (block_by l vs) _ (block_goes vs (begun_block_whole (block {p = p} d)) k h) (λ x. refl)

  pub stmt_goes : (xs : List Terminal) (d : BeginsStmt xs) → begun_deep_stmt d ≤ n → HasShortRows xs → Ends (stmt_by b l xs)
  unfolding stmt_by word_by if_by while_by do_by for_by return_by
  stmt_goes vs begun_stmt_none k h = expressed_stmt n b c g o l [] tt (none_expr n b c g o)
  stmt_goes vs (begun_stmt_block r) k h = block_stmt vs r k h
  stmt_goes vs (begun_stmt_effect r) k h = expressed_stmt n b c g o l vs (begun_expr r) (goes_expr n b c g o vs r k h)
  stmt_goes vs begun_stmt_if k h = ends_bind (paren_by b []) _ (paren_none n b c g o) (λ x. ends_bind (l.stmt []) _ w.no_stmt (λ y. refl))
  stmt_goes vs (begun_stmt_if_test {q} {xs} r) k h =
      ends_bind (paren_by b (Punct q paren_open ∷ xs)) _ (paren_ends n b c g o q xs (goes_expr n b c g o xs r k h.1.1)) (λ x. ends_bind (l.stmt []) _ w.no_stmt (λ y. refl))
  stmt_goes vs (begun_stmt_if_then {q} {zs} d r) k h =
      rw (reads_paren n b c g o q d (omega arith) h.1.1) (ends_bind (l.stmt zs) _ (w.stmt r (omega arith) (rows_behind (closed_expr d) h.1.1).1) (λ y. refl))
  stmt_goes vs (begun_stmt_if_else {q} {zs} {ws} d e r) k h =
      let j = (rows_behind (closed_expr d) h.1.1).1 in
      rw (reads_paren n b c g o q d (omega arith) h.1.1) (rw (m.stmt e (omega arith) (few_stmt (few_rows zs j) e))
      (ends_bind (l.stmt ws) _ (w.stmt r (omega arith) (rows_behind (closed_stmt e) j).1) (λ y. refl)))
  stmt_goes vs begun_stmt_while k h = ends_bind (paren_by b []) _ (paren_none n b c g o) (λ x. ends_bind (l.stmt []) _ w.no_stmt (λ y. refl))
  stmt_goes vs (begun_stmt_while_test {q} {xs} r) k h =
      ends_bind (paren_by b (Punct q paren_open ∷ xs)) _ (paren_ends n b c g o q xs (goes_expr n b c g o xs r k h.1.1)) (λ x. ends_bind (l.stmt []) _ w.no_stmt (λ y. refl))
  stmt_goes vs (begun_stmt_while_body {q} {zs} d r) k h =
      rw (reads_paren n b c g o q d (omega arith) h.1.1) (ends_bind (l.stmt zs) _ (w.stmt r (omega arith) (rows_behind (closed_expr d) h.1.1).1) (λ y. refl))
  stmt_goes vs (begun_stmt_do {xs} r) k h = ends_bind (l.stmt xs) _ (w.stmt r (omega arith) h.1) (λ x. refl)
  stmt_goes vs (begun_stmt_do_while {xs} d) k h = rw (m.stmt d (omega arith) (few_stmt (few_rows xs h.1) d)) (ends_bind (paren_by b []) _ (paren_none n b c g o) (λ x. refl))
  stmt_goes vs (begun_stmt_do_test {q} {xs} {zs} d r) k h =
      rw (m.stmt d (omega arith) (few_stmt (few_rows xs h.1) d))
      (ends_bind (paren_by b (Punct q paren_open ∷ zs)) _ (paren_ends n b c g o q zs (goes_expr n b c g o zs r (omega arith) (rows_behind (closed_stmt d) h.1).1.1)) (λ x. refl))
  stmt_goes vs (begun_stmt_do_close {q} {xs} d e) k h =
      rw (m.stmt d (omega arith) (few_stmt (few_rows xs h.1) d)) (rw (reads_paren n b c g o q e (omega arith) (rows_behind (closed_stmt d) h.1).1.1) refl)
  stmt_goes vs begun_stmt_for k h = ends_bind (for_head_by b []) _ (head_none n b c g o) (λ x. ends_bind (l.stmt []) _ w.no_stmt (λ y. refl))
  stmt_goes vs (begun_stmt_for_first {q} {xs} r) k h =
      ends_bind (for_head_by b (Punct q paren_open ∷ xs)) _ (head_first n b c g o q xs (first_go n b c g o xs r k h.1.1)) (λ x. ends_bind (l.stmt []) _ w.no_stmt (λ y. refl))
  stmt_goes vs (begun_stmt_for_test {q} {xs} {zs} i r) k h =
      ends_bind (for_head_by b (Punct q paren_open ∷ xs)) _ (head_test n b c g o q i (omega arith) h.1.1 (optional_go n b c g o zs r (omega arith) (rows_behind (closed_first i) h.1.1).1)) (λ x. ends_bind (l.stmt []) _ w.no_stmt (λ y. refl))
  stmt_goes vs (begun_stmt_for_updates {q} {xs} {zs} {ws} i t r) k h =
      let j = (rows_behind (closed_first i) h.1.1).1 in
      ends_bind (for_head_by b (Punct q paren_open ∷ xs)) _ (head_updates n b c g o q i t (omega arith) (omega arith) h.1.1 (updates_go n b c g o ws r (omega arith) (rows_behind (closed_optional t) j).1)) (λ x. ends_bind (l.stmt []) _ w.no_stmt (λ y. refl))
  stmt_goes us (begun_stmt_for_body {q} {xs} {zs} {ws} {vs} i t u r) k h =
      let j = (rows_behind (closed_first i) h.1.1).1 in
      let j' = (rows_behind (closed_optional t) j).1 in
      rw (c_for_head n b c q i t u (omega arith) (few_first (few_rows xs h.1.1) i) (omega arith) (few_optional (few_rows zs j) t) (omega arith) (few_updates (few_rows ws j') u))
      (ends_bind (l.stmt vs) _ (w.stmt r (omega arith) (rows_behind (closed_updates u) j').1) (λ y. refl))
  stmt_goes vs (begun_stmt_return {xs} r) k h = ends_bind (optional_by b xs) _ (optional_go n b c g o xs r k h.1) (λ x. refl)
  stmt_goes vs begun_stmt_break k h = refl
  stmt_goes vs begun_stmt_continue k h = refl
  stmt_goes vs (begun_stmt_whole d) k h = ap left_of (c_stmt n b c l m d k (few_stmt (few_rows vs h) d))

  -- a statement of a block
  bstmt_local : (xs : List Terminal) (d : BeginsLocal xs) → begun_deep_local d ≤ n → HasShortRows xs → (t : Bool) → begins_local xs ≡ t → Ends (bstmt_by b l xs)
  unfolding bstmt_by
  bstmt_local xs d k h true e = rw e (ends_bind (local_by b xs) _ (locals_go n b c g o xs d k h) (λ x. refl))
  bstmt_local xs d k h false e = let x = local_expressed n b c g o xs d h e in rw e (expressed_stmt n b c g o l xs x.0 x.1)

  bstmt_other : (xs : List Terminal) (d : BeginsStmt xs) → begun_deep_stmt d ≤ n → HasShortRows xs → Ends (bstmt_by b l xs)
  unfolding bstmt_by
  bstmt_other xs d k h = rw (stmt_no_local d) (stmt_goes xs d k h)

  pub bstmt_goes : (xs : List Terminal) (d : BeginsBstmt xs) → begun_deep_bstmt d ≤ n → HasShortRows xs → Ends (bstmt_by b l xs)
  bstmt_goes xs begun_bstmt_none k h = bstmt_other [] begun_stmt_none (omega arith) tt
  bstmt_goes xs (begun_bstmt_local r) k h = bstmt_local xs r k h (begins_local xs) refl
  bstmt_goes xs (begun_bstmt_stmt r) k h = bstmt_other xs r k h
  bstmt_goes xs (begun_bstmt_whole d) k h = ap left_of (c_bstmt n b c l m d k (few_bstmt (few_rows xs h) d))

  bstmts_none : (i : ℕ) → Ends (bstmts_up_to b l i [])
  unfolding bstmts_up_to
  bstmts_none zero = refl
  bstmts_none (suc i) = refl

  bstmts_go_up_to : (xs : List Terminal) (d : BeginsBstmts xs) (i : ℕ) → begun_deep_bstmts d ≤ n → HasShortRows xs → length xs < i → Ends (bstmts_up_to b l i xs)
  unfolding bstmts_up_to
  bstmts_go_up_to xs d zero k h j = absurd (omega arith)
  bstmts_go_up_to [] d (suc i) k h j = refl
  bstmts_go_up_to (x ∷ xs) (begun_bstmts_one r) (suc i) k h j =
      rw (bstmt_apart r) (ends_bind (bstmt_by b l (x ∷ xs)) _ (bstmt_goes (x ∷ xs) r k h) (λ y. ends_bind (bstmts_up_to b l i []) _ (bstmts_none i) (λ z. refl)))
  bstmts_go_up_to (x ∷ xs) (begun_bstmts_more {zs} d r) (suc i) k h j =
      rw (bstmt_goes_on d) (rw (c_bstmt n b c l m d (omega arith) (few_bstmt (few_rows (x ∷ xs) h) d))
      (ends_bind (bstmts_up_to b l i zs) _ (bstmts_go_up_to zs r i (omega arith) (rows_behind (closed_bstmt d) h) (omega (arith, less_bstmt d))) (λ y. refl)))
  bstmts_go_up_to (x ∷ xs) (begun_bstmts_whole d) (suc i) k h j = ap left_of (c_bstmts_up_to n b c l m d (suc i) k (few_bstmts (few_rows (x ∷ xs) h) d) refl j)

  pub bstmts_go : (xs : List Terminal) (d : BeginsBstmts xs) → begun_deep_bstmts d ≤ n → HasShortRows xs → Ends (bstmts_by b l xs)
  unfolding bstmts_by
  bstmts_go xs d k h = bstmts_go_up_to xs d (suc (length xs)) k h (omega arith)

-- at each depth of nesting
pub statements_go : StatementsGo
unfolding below_stmt
statements_go zero = record {
  no_stmt = refl;
  no_bstmts = refl;
  stmt = λ d k h. absurd (omega arith);
  bstmts = λ d k h. absurd (omega arith);
}
statements_go (suc n) =
    let e = both_go n in
    record {
      no_stmt = stmt_goes n (below n) (comp n) e.0 e.1 (below_stmt n) (comp_stmt n) (statements_go n) [] begun_stmt_none (omega arith) tt;
      no_bstmts = bstmts_go n (below n) (comp n) e.0 e.1 (below_stmt n) (comp_stmt n) (statements_go n) [] begun_bstmts_none (omega arith) tt;
      stmt = λ d k h. stmt_goes n (below n) (comp n) e.0 e.1 (below_stmt n) (comp_stmt n) (statements_go n) _ d (omega arith) h;
      bstmts = λ d k h. bstmts_go n (below n) (comp n) e.0 e.1 (below_stmt n) (comp_stmt n) (statements_go n) _ d (omega arith) h;
    }

pub goes_block : (n : ℕ) → GoesBlock n (below_stmt n)
goes_block n = block_goes n (below n) (comp n) (both_go n).0 (both_go n).1 (below_stmt n) (comp_stmt n) (statements_go n)

pub goes_stmt : (n : ℕ) → GoesStmt n (below_stmt n)
goes_stmt n = stmt_goes n (below n) (comp n) (both_go n).0 (both_go n).1 (below_stmt n) (comp_stmt n) (statements_go n)

pub goes_bstmt : (n : ℕ) → GoesBstmt n (below_stmt n)
goes_bstmt n = bstmt_goes n (below n) (comp n) (both_go n).0 (both_go n).1 (below_stmt n) (comp_stmt n) (statements_go n)

pub goes_bstmts : (n : ℕ) → GoesBstmts n (below_stmt n)
goes_bstmts n = bstmts_go n (below n) (comp n) (both_go n).0 (both_go n).1 (below_stmt n) (comp_stmt n) (statements_go n)
