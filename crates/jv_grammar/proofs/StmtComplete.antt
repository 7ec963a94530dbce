-- What derives as statements is read: each reader gives the derivation, up to where it ends.
use Rattle.std.proofs.Common.{◌≡◌, ℕ, zero, suc, ◌<◌, ◌≤◌, true, false, List, ◌∷◌, length, arith, refl, ◌∙◌, Ok, Option, lit<}
use Rattle.jv_tree.specs.ExprTree.{ExprTree, ExprTrees}
use Rattle.jv_tree.specs.StmtTree as s
use Rattle.jv_tree.specs.StmtTree.{VarTree, StmtTree, StmtTrees}
use Rattle.jv_grammar.specs.declared.terminal.Terminal.{Terminal}
use Rattle.jv_grammar.specs.declared.terminal.Terminal.TheVariants.{Punct}
use Rattle.jv_grammar.specs.declared.form.Form.TheVariants.{Effect}
use Rattle.jv_grammar.specs.Marks.{paren_open, paren_close, semicolon, comma, equals_sign}
use Rattle.jv_grammar.specs.TypeGrammar.{starts}
use Rattle.jv_grammar.specs.ExprGrammar.{DerivesExpr}
use Rattle.jv_grammar.specs.StmtGrammar.{DerivesVar, var_alone, var_init, DerivesVars, vars_one, vars_more, DerivesLocal, local_vars, local_final, DerivesEffects, effects_one, effects_more, DerivesFirst, first_none, first_local, first_effects, DerivesOptional, optional_none, optional_some, DerivesUpdates, updates_none, updates_some, DerivesBlock, block, DerivesBstmts, bstmts_none, bstmts_more, DerivesBstmt, bstmt_local, bstmt_stmt, DerivesStmt, stmt_block, stmt_empty, stmt_effect, stmt_if, stmt_if_else, stmt_while, stmt_do, stmt_for, stmt_return, stmt_break, stmt_continue}
use Rattle.jv_grammar.specs.Reader.{Reads}
use Rattle.jv_grammar.specs.ExprReader.{Below, below}
use Rattle.jv_grammar.specs.StmtReader.{BelowStmt, var_by, vars_up_to, vars_by, final_by, plain_by, local_by, effect_by, effects_up_to, effects_by, first_by, optional_by, updates_by, paren_by, block_by, effect_stmt_by, if_by, while_by, do_by, ForHead, for_head_by, for_by, return_by, word_by, stmt_by, bstmt_by, ends_block, bstmts_up_to, bstmts_by, below_stmt, vars_of, local_of, block_of, bstmts_of, stmt_of}
use Rattle.jv_grammar.specs.Width.{wide_expr}
use Rattle.jv_grammar.specs.StmtWidth.{wide_var, wide_vars, wide_local, wide_effects, wide_first, wide_optional, wide_updates, wide_block, wide_bstmts, wide_bstmt, wide_stmt}
use Rattle.jv_grammar.proofs.Depth.{deep_expr, less_expr}
use Rattle.jv_grammar.proofs.StmtDepth.{deep_var, deep_vars, deep_local, deep_effects, deep_first, deep_optional, deep_updates, deep_block, deep_bstmts, deep_bstmt, deep_stmt, less_var, less_bstmt}
use Rattle.jv_grammar.proofs.Ranks.{first_rank, starts_apart}
use Rattle.jv_grammar.proofs.Starts.{not_starts, start_expr}
use Rattle.jv_grammar.proofs.Types.{reads_ty}
use Rattle.jv_grammar.proofs.Complete.{Comp, comp, c_expr, c_init}
use Rattle.jv_grammar.proofs.StmtStarts.{start_effects, no_local_effects, to_effect, vars_ident, plain_local, local_seen, local_starts, no_local, bstmt_goes_on}

abbrev pub got_var : VarTree → List Terminal → Reads VarTree
got_var v ys = Ok (v, ys)

abbrev pub got_vars : List VarTree → List Terminal → Reads (List VarTree)
got_vars vs ys = Ok (vs, ys)

abbrev pub got_stmt : StmtTree → List Terminal → Reads StmtTree
got_stmt x ys = Ok (x, ys)

abbrev pub got_stmts : StmtTrees → List Terminal → Reads StmtTrees
got_stmts ss ys = Ok (ss, ys)

abbrev pub got_block : ℕ → StmtTrees → List Terminal → Reads (ℕ × StmtTrees)
got_block p ss ys = Ok ((p, ss), ys)

abbrev pub got_effect : ExprTree → List Terminal → Reads ExprTree
got_effect e ys = Ok (e, ys)

abbrev pub got_effects : ExprTrees → List Terminal → Reads ExprTrees
got_effects es ys = Ok (es, ys)

abbrev pub got_optional : Option ExprTree → List Terminal → Reads (Option ExprTree)
got_optional c ys = Ok (c, ys)

abbrev pub got_head : StmtTrees → Option ExprTree → ExprTrees → List Terminal → Reads ForHead
got_head ss c es ys = Ok (record { first = ss; condition = c; updates = es }, ys)

module _ (n : ℕ) (b : Below) (c : Comp n b) where
  pub c_var : {v : VarTree} {xs ys : List Terminal} (d : DerivesVar v xs ys) → deep_var d ≤ n → wide_var d ≤ 200 → 12 < first_rank ys → var_by b xs ≡ got_var v ys
  unfolding var_by
  c_var (var_alone {ys}) h w r = rw (starts_apart equals_sign ys r) refl
  c_var (var_init d) h w r = rw (c_init n b c d h w r) refl

  pub c_vars_up_to : {vs : List VarTree} {xs ys : List Terminal} (d : DerivesVars vs xs ys) (k : ℕ) → deep_vars d ≤ n → wide_vars d ≤ 200 → 12 < first_rank ys → starts comma ys ≡ false → length xs ≤ k → vars_up_to b k xs ≡ got_vars vs ys
  unfolding vars_up_to
  c_vars_up_to (vars_one d) zero h w r m l = absurd (omega (arith, less_var d))
  c_vars_up_to (vars_one d) (suc k) h w r m l = rw (c_var d h w r) (rw m refl)
  c_vars_up_to (vars_more d q) zero h w r m l = absurd (omega (arith, less_var d))
  c_vars_up_to (vars_more d q) (suc k) h w r m l =
      rw (c_var d (omega arith) (omega arith) (lit< tt)) (rw (c_vars_up_to q k (omega arith) (omega arith) r m (omega (arith, less_var d))) refl)

  pub c_vars : {vs : List VarTree} {xs ys : List Terminal} (d : DerivesVars vs xs ys) → deep_vars d ≤ n → wide_vars d ≤ 200 → 12 < first_rank ys → starts comma ys ≡ false → vars_by b xs ≡ got_vars vs ys
  unfolding vars_by
  c_vars {xs} d h w r m = c_vars_up_to d (length xs) h w r m (omega arith)

  pub c_local : {x : StmtTree} {xs ys : List Terminal} (d : DerivesLocal x xs ys) → deep_local d ≤ n → wide_local d ≤ 200 → 12 < first_rank ys → starts comma ys ≡ false → local_by b xs ≡ got_stmt x ys
  unfolding local_by final_by plain_by
  c_local (local_vars d q) h w r m =
      let i = vars_ident q in
      plain_local b d ∙ rw (reads_ty d (omega arith) i.1 i.2) (rw (c_vars q h (omega arith) r m) refl)
  c_local (local_final d q) h w r m =
      let i = vars_ident q in
      rw (reads_ty d (omega arith) i.1 i.2) (rw (c_vars q h (omega arith) r m) refl)

  pub c_effect : {e : ExprTree} {xs ys : List Terminal} (d : DerivesExpr Effect e xs ys) → deep_expr d ≤ n → wide_expr d ≤ 200 → 12 < first_rank ys → effect_by b xs ≡ got_effect e ys
  unfolding effect_by
  c_effect d h w r = rw (c_expr n b c d h w r) refl

  pub c_effects_up_to : {es : ExprTrees} {xs ys : List Terminal} (d : DerivesEffects es xs ys) (k : ℕ) → deep_effects d ≤ n → wide_effects d ≤ 200 → 12 < first_rank ys → starts comma ys ≡ false → length xs ≤ k → effects_up_to b k xs ≡ got_effects es ys
  unfolding effects_up_to
  c_effects_up_to (effects_one d) zero h w r m l = absurd (omega (arith, less_expr d))
  c_effects_up_to (effects_one d) (suc k) h w r m l = rw (c_effect d h w r) (rw m refl)
  c_effects_up_to (effects_more d q) zero h w r m l = absurd (omega (arith, less_expr d))
  c_effects_up_to (effects_more d q) (suc k) h w r m l =
      rw (c_effect d (omega arith) (omega arith) (lit< tt)) (rw (c_effects_up_to q k (omega arith) (omega arith) r m (omega (arith, less_expr d))) refl)

  c_effects : {es : ExprTrees} {xs ys : List Terminal} (d : DerivesEffects es xs ys) → deep_effects d ≤ n → wide_effects d ≤ 200 → 12 < first_rank ys → starts comma ys ≡ false → effects_by b xs ≡ got_effects es ys
  unfolding effects_by
  c_effects {xs} d h w r m = c_effects_up_to d (length xs) h w r m (omega arith)

  pub c_first : {ss : StmtTrees} {p : ℕ} {xs ys : List Terminal} (d : DerivesFirst ss xs (Punct p semicolon ∷ ys)) → deep_first d ≤ n → wide_first d ≤ 200 → first_by b xs ≡ got_stmts ss (Punct p semicolon ∷ ys)
  unfolding first_by
  c_first first_none h w = refl
  c_first (first_local d) h w = rw (local_starts semicolon d, local_seen d) (rw (c_local d h w (lit< tt) refl) refl)
  c_first (first_effects {xs} d) h w =
      rw (not_starts semicolon xs refl (start_effects d), no_local_effects d (lit< tt) refl) (rw (c_effects d h w (lit< tt) refl) refl)

  pub c_optional : {x : Option ExprTree} {p : ℕ} {xs ys : List Terminal} (d : DerivesOptional x xs (Punct p semicolon ∷ ys)) → deep_optional d ≤ n → wide_optional d ≤ 200 → optional_by b xs ≡ got_optional x (Punct p semicolon ∷ ys)
  unfolding optional_by
  c_optional optional_none h w = refl
  c_optional (optional_some {xs} d) h w = rw (not_starts semicolon xs refl (start_expr d)) (rw (c_expr n b c d h w (lit< tt)) refl)

  c_updates : {es : ExprTrees} {p : ℕ} {xs ys : List Terminal} (d : DerivesUpdates es xs (Punct p paren_close ∷ ys)) → deep_updates d ≤ n → wide_updates d ≤ 200 → updates_by b xs ≡ got_effects es (Punct p paren_close ∷ ys)
  unfolding updates_by
  c_updates updates_none h w = refl
  c_updates (updates_some {xs} d) h w = rw (not_starts paren_close xs refl (start_effects d)) (c_effects d h w (lit< tt) refl)

  pub c_for_head : {ss : StmtTrees} {x : Option ExprTree} {es : ExprTrees} {r u v : ℕ} {xs zs ws ys : List Terminal} (q : ℕ)
      (i : DerivesFirst ss xs (Punct u semicolon ∷ zs)) (o : DerivesOptional x zs (Punct v semicolon ∷ ws)) (m : DerivesUpdates es ws (Punct r paren_close ∷ ys))
      → deep_first i ≤ n → wide_first i ≤ 200 → deep_optional o ≤ n → wide_optional o ≤ 200 → deep_updates m ≤ n → wide_updates m ≤ 200
      → for_head_by b (Punct q paren_open ∷ xs) ≡ got_head ss x es ys
  unfolding for_head_by
  c_for_head q i o m hi wi ho wo hm wm = rw (c_first i hi wi) (rw (c_optional o ho wo) (rw (c_updates m hm wm) refl))

-- The readers below read each derivation that nests less than n deep and whose types have at most 200 pairs of brackets.
pub record CompStmt (n : ℕ) (l : BelowStmt) : Type 0 where
  pub stmt : {x : StmtTree} {xs ys : List Terminal} (d : DerivesStmt x xs ys) → deep_stmt d < n → wide_stmt d ≤ 200 → l.stmt xs ≡ got_stmt x ys
  pub bstmts : {ss : StmtTrees} {xs ys : List Terminal} (d : DerivesBstmts ss xs ys) → deep_bstmts d < n → wide_bstmts d ≤ 200 → ends_block ys ≡ true → l.bstmts xs ≡ got_stmts ss ys

module _ (n : ℕ) (b : Below) (c : Comp n b) (l : BelowStmt) (m : CompStmt n l) where
  pub c_block : {p : ℕ} {ss : StmtTrees} {xs ys : List Terminal} (d : DerivesBlock p ss xs ys) → deep_block d ≤ n → wide_block d ≤ 200 → block_by l xs ≡ got_block p ss ys
  unfolding block_by
  c_block (block d) h w = rw (m.bstmts d h w refl) refl

  block_is : {p : ℕ} {ss : StmtTrees} {xs ys : List Terminal} (d : DerivesBlock p ss xs ys) → block_by l xs ≡ got_block p ss ys → stmt_by b l xs ≡ got_stmt (s.stmt p (s.block ss)) ys
  unfolding stmt_by
  block_is (block d) h = rw h refl

  pub c_stmt : {x : StmtTree} {xs ys : List Terminal} (d : DerivesStmt x xs ys) → deep_stmt d ≤ n → wide_stmt d ≤ 200 → stmt_by b l xs ≡ got_stmt x ys
  unfolding stmt_by word_by effect_stmt_by if_by while_by do_by for_by return_by paren_by
  c_stmt (stmt_block d) h w = block_is d (c_block d h w)
  c_stmt stmt_empty h w = refl
  c_stmt (stmt_effect {xs} d) h w = to_effect b l xs (start_expr d) ∙ rw (c_effect n b c d h w (lit< tt)) refl
  c_stmt (stmt_if e d o) h w = rw (c_expr n b c e (omega arith) (omega arith) (lit< tt)) (rw (m.stmt d (omega arith) (omega arith)) (rw o refl))
  c_stmt (stmt_if_else e d r) h w =
      rw (c_expr n b c e (omega arith) (omega arith) (lit< tt)) (rw (m.stmt d (omega arith) (omega arith)) (rw (m.stmt r (omega arith) (omega arith)) refl))
  c_stmt (stmt_while e d) h w = rw (c_expr n b c e (omega arith) (omega arith) (lit< tt)) (rw (m.stmt d (omega arith) (omega arith)) refl)
  c_stmt (stmt_do d e) h w = rw (m.stmt d (omega arith) (omega arith)) (rw (c_expr n b c e (omega arith) (omega arith) (lit< tt)) refl)
  c_stmt (stmt_for i o u d) h w =
      rw (c_for_head n b c _ i o u (omega arith) (omega arith) (omega arith) (omega arith) (omega arith) (omega arith)) (rw (m.stmt d (omega arith) (omega arith)) refl)
  c_stmt (stmt_return o) h w = rw (c_optional n b c o h w) refl
  c_stmt stmt_break h w = refl
  c_stmt stmt_continue h w = refl

  pub c_bstmt : {x : StmtTree} {xs ys : List Terminal} (d : DerivesBstmt x xs ys) → deep_bstmt d ≤ n → wide_bstmt d ≤ 200 → bstmt_by b l xs ≡ got_stmt x ys
  unfolding bstmt_by
  c_bstmt (bstmt_local d) h w = rw (local_seen d) (rw (c_local n b c d h w (lit< tt) refl) refl)
  c_bstmt (bstmt_stmt d) h w = rw (no_local d) (c_stmt d h w)

  pub c_bstmts_up_to : {ss : StmtTrees} {xs ys : List Terminal} (d : DerivesBstmts ss xs ys) (k : ℕ) → deep_bstmts d ≤ n → wide_bstmts d ≤ 200 → ends_block ys ≡ true → length xs < k → bstmts_up_to b l k xs ≡ got_stmts ss ys
  unfolding bstmts_up_to
  c_bstmts_up_to d zero h w e i = absurd (omega arith)
  c_bstmts_up_to bstmts_none (suc k) h w e i = rw e refl
  c_bstmts_up_to (bstmts_more d q) (suc k) h w e i =
      rw (bstmt_goes_on d) (rw (c_bstmt d (omega arith) (omega arith)) (rw (c_bstmts_up_to q k (omega arith) (omega arith) e (omega (arith, less_bstmt d))) refl))

  pub c_bstmts : {ss : StmtTrees} {xs ys : List Terminal} (d : DerivesBstmts ss xs ys) → deep_bstmts d ≤ n → wide_bstmts d ≤ 200 → ends_block ys ≡ true → bstmts_by b l xs ≡ got_stmts ss ys
  unfolding bstmts_by
  c_bstmts {xs} d h w e = c_bstmts_up_to d (suc (length xs)) h w e (omega arith)

-- at each depth of nesting
pub comp_stmt : (n : ℕ) → CompStmt n (below_stmt n)
unfolding below_stmt
comp_stmt zero = record {
  stmt = λ d h w. absurd (omega arith);
  bstmts = λ d h w e. absurd (omega arith);
}
comp_stmt (suc n) = record {
  stmt = λ d h w. c_stmt n (below n) (comp n) (below_stmt n) (comp_stmt n) d (omega arith) w;
  bstmts = λ d h w e. c_bstmts n (below n) (comp n) (below_stmt n) (comp_stmt n) d (omega arith) w e;
}

pub reads_vars : (n : ℕ) {vs : List VarTree} {xs ys : List Terminal} (d : DerivesVars vs xs ys) → deep_vars d ≤ n → wide_vars d ≤ 200 → 12 < first_rank ys → starts comma ys ≡ false → vars_of n xs ≡ got_vars vs ys
reads_vars n d h w r m = c_vars n (below n) (comp n) d h w r m

pub reads_local : (n : ℕ) {x : StmtTree} {xs ys : List Terminal} (d : DerivesLocal x xs ys) → deep_local d ≤ n → wide_local d ≤ 200 → 12 < first_rank ys → starts comma ys ≡ false → local_of n xs ≡ got_stmt x ys
reads_local n d h w r m = c_local n (below n) (comp n) d h w r m

pub reads_block : (n : ℕ) {p : ℕ} {ss : StmtTrees} {xs ys : List Terminal} (d : DerivesBlock p ss xs ys) → deep_block d ≤ n → wide_block d ≤ 200 → block_of n xs ≡ got_block p ss ys
reads_block n d h w = c_block n (below n) (comp n) (below_stmt n) (comp_stmt n) d h w

pub reads_bstmts : (n : ℕ) {ss : StmtTrees} {xs ys : List Terminal} (d : DerivesBstmts ss xs ys) → deep_bstmts d ≤ n → wide_bstmts d ≤ 200 → ends_block ys ≡ true → bstmts_of n xs ≡ got_stmts ss ys
reads_bstmts n d h w e = c_bstmts n (below n) (comp n) (below_stmt n) (comp_stmt n) d h w e

pub reads_stmt : (n : ℕ) {x : StmtTree} {xs ys : List Terminal} (d : DerivesStmt x xs ys) → deep_stmt d ≤ n → wide_stmt d ≤ 200 → stmt_of n xs ≡ got_stmt x ys
reads_stmt n d h w = c_stmt n (below n) (comp n) (below_stmt n) (comp_stmt n) d h w
