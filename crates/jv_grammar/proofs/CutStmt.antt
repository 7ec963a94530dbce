-- Reading a front of terminals against reading them all: statements and blocks, at each depth of nesting.
use Rattle.std.proofs.Common.{◌≡◌, ℕ, zero, suc, ◌<◌, ◌≤◌, inl, inr, false, nat_eq, List, [], ◌∷◌, ◌++◌, length, arith, refl, ap, Ok, Err}
use Rattle.jv_tree.specs.declared.name.Ident.{Ident as Identifier}
use Rattle.jv_tree.specs.StmtTree as s
use Rattle.jv_tree.specs.StmtTree.{StmtTree, StmtTrees}
use Rattle.jv_grammar.specs.declared.terminal.Terminal.{Terminal}
use Rattle.jv_grammar.specs.declared.terminal.Terminal.TheVariants.{Ident, Keyword, Literal, Minimum, MinimumLong, Punct}
use Rattle.jv_grammar.specs.Marks.{brace_open, brace_close, semicolon, word_break, word_continue, word_do, word_else, word_for, word_if, word_return, word_while}
use Rattle.jv_grammar.specs.TypeGrammar.{starts_word}
use Rattle.jv_grammar.specs.ExprGrammar.{at_of}
use Rattle.jv_grammar.specs.StmtGrammar.{if_else_kind}
use Rattle.jv_grammar.specs.Reader.{Reads, ◌>>=◌, closed}
use Rattle.jv_grammar.specs.TypeReader.{name_of}
use Rattle.jv_grammar.specs.ExprReader.{Below, below}
use Rattle.jv_grammar.specs.StmtReader.{BelowStmt, local_by, effect_by, paren_by, block_by, effect_stmt_by, if_by, while_by, do_by, for_by, return_by, word_by, stmt_by, begins_local, bstmt_by, ends_block, bstmts_up_to, bstmts_by, below_stmt}
use Rattle.jv_grammar.proofs.Ending.{left_of, Ends, IsShort}
use Rattle.jv_grammar.proofs.Goes.{ends_bind}
use Rattle.jv_grammar.proofs.Read.{gives, bind_ok, chosen, closed_ok}
use Rattle.jv_grammar.proofs.StmtDepth.{less_local, less_stmt}
use Rattle.jv_grammar.proofs.StmtSound.{derives_local, derives_stmt}
use Rattle.jv_grammar.proofs.CutBoth.{IsCutUnless, both_give, both_refuse, CutBoth, looser, from_first, short_if, cut_choice, cut_then, cut_then_less, cut_done, cut_map, cut_next, cut_if, cut_mark}
use Rattle.jv_grammar.proofs.CutTurns.{all_long_turns, long_turns_of}
use Rattle.jv_grammar.proofs.CutTypes.{first_word}
use Rattle.jv_grammar.proofs.CutHeads.{BelowBoth, lower}
use Rattle.jv_grammar.proofs.CutHalf.{IsHalfRead}
use Rattle.jv_grammar.proofs.CutUnary.{ReadsNames}
use Rattle.jv_grammar.proofs.CutBelow.{refused_below, both_below, names_below}
use Rattle.jv_grammar.proofs.CutForms.{cut_behind_test, cut_declares}
use Rattle.jv_grammar.proofs.CutLocals.{both_local, both_effect, both_optional, both_paren, both_for_head, half_local, half_effect}

-- The readers of what is nested one statement deeper, of which the first nest k deep, and the others no less deep.
pub record StmtsBoth (k : ℕ) (l r : BelowStmt) : Type 0 where
  pub stmt : (n m : ℕ) → CutBoth n m k l.stmt r.stmt
  pub bstmts : (n m : ℕ) → CutBoth n m k l.bstmts r.bstmts

-- what stands behind the `{` of a block, and a block as a statement
abbrev in_block : BelowStmt → ℕ → List Terminal → Reads (ℕ × StmtTrees)
in_block l p xs = l.bstmts xs >>= λ r. closed brace_close (p, r.0) r.1

abbrev block_stmt : BelowStmt → List Terminal → Reads StmtTree
block_stmt l xs = block_by l xs >>= λ r. Ok (s.stmt r.0.0 (s.block r.0.1), r.1)

block_short : (l : BelowStmt) → ((p : ℕ) → IsShort (in_block l p)) → IsShort (block_by l)
unfolding block_by
block_short l s [] = omega arith
block_short l s (Punct p o ∷ xs) = short_if (nat_eq o brace_open) (in_block l p xs) (Err (Punct p o ∷ xs)) (Punct p o ∷ xs) (let k = s p xs in omega (arith, k)) (omega arith)
block_short l s (x ∷ xs) = omega arith

-- A keyword's statements are short of what stands behind the keyword.
record AreWordsShort (b : Below) (l : BelowStmt) : Type 0 where
  ifs : (p : ℕ) → IsShort (if_by b l p)
  whiles : (p : ℕ) → IsShort (while_by b l p)
  dos : (p : ℕ) → IsShort (do_by b l p)
  fors : (p : ℕ) → IsShort (for_by b l p)
  returns : (p : ℕ) → IsShort (return_by b p)
  effects : IsShort (effect_stmt_by b)

ends_short : (k : StmtTree) → IsShort (closed semicolon k)
ends_short k = (cut_mark {n = 0} {m = 0} {d = 0} semicolon k).front

word_short : (b : Below) (l : BelowStmt) → AreWordsShort b l → (p v : ℕ) (xs : List Terminal) → length (left_of (word_by b l p v xs)) ≤ suc (length xs)
unfolding word_by
word_short b l w p v xs =
    short_if (nat_eq v word_if) (if_by b l p xs) _ (Keyword p v ∷ xs) (let k = w.ifs p xs in omega (arith, k))
    (short_if (nat_eq v word_while) (while_by b l p xs) _ (Keyword p v ∷ xs) (let k = w.whiles p xs in omega (arith, k))
    (short_if (nat_eq v word_do) (do_by b l p xs) _ (Keyword p v ∷ xs) (let k = w.dos p xs in omega (arith, k))
    (short_if (nat_eq v word_for) (for_by b l p xs) _ (Keyword p v ∷ xs) (let k = w.fors p xs in omega (arith, k))
    (short_if (nat_eq v word_return) (return_by b p xs) _ (Keyword p v ∷ xs) (let k = w.returns p xs in omega (arith, k))
    (short_if (nat_eq v word_break) (closed semicolon (s.stmt p s.break) xs) _ (Keyword p v ∷ xs) (let k = ends_short (s.stmt p s.break) xs in omega (arith, k))
    (short_if (nat_eq v word_continue) (closed semicolon (s.stmt p s.continue) xs) (effect_stmt_by b (Keyword p v ∷ xs)) (Keyword p v ∷ xs) (let k = ends_short (s.stmt p s.continue) xs in omega (arith, k))
    (w.effects (Keyword p v ∷ xs))))))))

stmt_short : (b : Below) (l : BelowStmt) → AreWordsShort b l → IsShort (block_stmt l) → IsShort (stmt_by b l)
unfolding stmt_by
stmt_short b l w s' [] = w.effects []
stmt_short b l w s' (Keyword p v ∷ xs) = word_short b l w p v xs
stmt_short b l w s' (Punct p o ∷ xs) = short_if (nat_eq o brace_open) (block_stmt l (Punct p o ∷ xs)) _ (Punct p o ∷ xs) (s' (Punct p o ∷ xs))
    (short_if (nat_eq o semicolon) (Ok (s.stmt p s.empty, xs)) (effect_stmt_by b (Punct p o ∷ xs)) (Punct p o ∷ xs) (omega arith) (w.effects (Punct p o ∷ xs)))
stmt_short b l w s' (x ∷ xs) = w.effects (x ∷ xs)

module _ (k : ℕ) (b c : Below) (h : BelowBoth k b c) (names : ReadsNames k b) (l r : BelowStmt) (g : StmtsBoth k l r) where
  both_in_block : (p n m : ℕ) → CutBoth n m k (in_block l p) (in_block r p)
  both_in_block p n m = cut_then _ _ (g.bstmts n m) (λ x. cut_mark brace_close (p, x))

  pub both_block : (n m : ℕ) → CutBoth n m (suc k) (block_by l) (block_by r)
  unfolding block_by
  both_block n m = from_first (block_by l) (block_by r) (block_short l (λ p. (both_in_block p 0 0).front)) (block_short r (λ p. (both_in_block p 0 0).whole)) by
    where
      by : (z : Terminal) (zs ws : List Terminal) → suc (length zs) < n → suc (length (zs ++ ws)) < m → IsCutUnless (suc k < suc (length (zs ++ ws))) ws (block_by l (z ∷ zs)) (block_by r (z ∷ zs ++ ws))
      by (Punct p o) zs ws s s' = cut_choice (nat_eq o brace_open) (looser (λ d. omega arith) ((both_in_block p n m).cut zs ws (omega arith) (omega arith))) both_refuse
      by (Ident i) zs ws s s' = both_refuse
      by (Keyword p v) zs ws s s' = both_refuse
      by (Literal p v) zs ws s s' = both_refuse
      by (Minimum p) zs ws s s' = both_refuse
      by (MinimumLong p) zs ws s s' = both_refuse

  pub both_effect_stmt : (n m : ℕ) → CutBoth n m (suc k) (effect_stmt_by b) (effect_stmt_by c)
  unfolding effect_stmt_by
  both_effect_stmt n m = cut_then _ _ (both_effect k b c h names n m) (λ x. cut_mark semicolon (s.stmt (at_of x) (s.effect x)))

  parens : (n m : ℕ) → CutBoth n m k (paren_by b) (paren_by c)
  parens n m = lower (both_paren k b c h names n m)

  pub both_if : (p n m : ℕ) → CutBoth n m k (if_by b l p) (if_by c r p)
  unfolding if_by
  both_if p n m = cut_then _ _ (parens n m) (λ e. cut_then _ _ (g.stmt n m) (λ x. cut_if (starts_word word_else) (first_word _)
      (cut_next (cut_map (λ (y : StmtTree). s.stmt p (if_else_kind e x y)) (g.stmt n m))) (cut_done (s.stmt p (s.if_else (s.branches e x s.no_branches) s.no_else)))))

  pub both_while : (p n m : ℕ) → CutBoth n m k (while_by b l p) (while_by c r p)
  unfolding while_by
  both_while p n m = cut_then _ _ (parens n m) (λ e. cut_map (λ (x : StmtTree). s.stmt p (s.while_loop e x)) (g.stmt n m))

  -- what stands behind the `while` of a `do`
  abbrev do_rest : Below → ℕ → StmtTree → List Terminal → Reads StmtTree
  do_rest b p x ys = paren_by b ys >>= λ q. closed semicolon (s.stmt p (s.do_loop x q.0)) q.1

  pub both_do : (p n m : ℕ) → CutBoth n m k (do_by b l p) (do_by c r p)
  unfolding do_by
  both_do p n m = cut_then _ _ (g.stmt n m) (λ x. cut_behind_test (starts_word word_while) (first_word _) (do_rest b p x) (do_rest c p x) (cut_then _ _ (parens n m) (λ e. cut_mark semicolon (s.stmt p (s.do_loop x e)))))

  pub both_for : (p n m : ℕ) → CutBoth n m k (for_by b l p) (for_by c r p)
  unfolding for_by
  both_for p n m = cut_then _ _ (lower (both_for_head k b c h names n m)) (λ f. cut_map (λ (x : StmtTree). s.stmt p (s.for_loop f.first f.condition f.updates x)) (g.stmt n m))

  pub both_return : (p n m : ℕ) → CutBoth n m k (return_by b p) (return_by c p)
  unfolding return_by
  both_return p n m = cut_then _ _ (lower (both_optional k b c h names n m)) (λ e. cut_mark semicolon (s.stmt p (s.return e)))

  words_front : AreWordsShort b l
  words_front = record {
    ifs = λ p. (both_if p 0 0).front;
    whiles = λ p. (both_while p 0 0).front;
    dos = λ p. (both_do p 0 0).front;
    fors = λ p. (both_for p 0 0).front;
    returns = λ p. (both_return p 0 0).front;
    effects = (both_effect_stmt 0 0).front;
  }

  words_whole : AreWordsShort c r
  words_whole = record {
    ifs = λ p. (both_if p 0 0).whole;
    whiles = λ p. (both_while p 0 0).whole;
    dos = λ p. (both_do p 0 0).whole;
    fors = λ p. (both_for p 0 0).whole;
    returns = λ p. (both_return p 0 0).whole;
    effects = (both_effect_stmt 0 0).whole;
  }

  -- behind a terminal
  further : {A : Type 0} {p q : List Terminal → Reads A} (zs ws : List Terminal) → ((n m : ℕ) → CutBoth n m k p q) → IsCutUnless (suc k < suc (length (zs ++ ws))) ws (p zs) (q (zs ++ ws))
  further zs ws x = looser (λ d. omega arith) ((x (suc (length zs)) (suc (length (zs ++ ws)))).cut zs ws (omega arith) (omega arith))

  effects : (z : Terminal) (zs ws : List Terminal) → IsCutUnless (suc k < suc (length (zs ++ ws))) ws (effect_stmt_by b (z ∷ zs)) (effect_stmt_by c (z ∷ zs ++ ws))
  effects z zs ws = (both_effect_stmt (suc (suc (length zs))) (suc (suc (length (zs ++ ws))))).cut (z ∷ zs) ws (omega arith) (omega arith)

  pub word_cut : (p v : ℕ) (zs ws : List Terminal) → IsCutUnless (suc k < suc (length (zs ++ ws))) ws (word_by b l p v zs) (word_by c r p v (zs ++ ws))
  unfolding word_by
  word_cut p v zs ws =
      cut_choice (nat_eq v word_if) (further zs ws (both_if p))
      (cut_choice (nat_eq v word_while) (further zs ws (both_while p))
      (cut_choice (nat_eq v word_do) (further zs ws (both_do p))
      (cut_choice (nat_eq v word_for) (further zs ws (both_for p))
      (cut_choice (nat_eq v word_return) (further zs ws (both_return p))
      (cut_choice (nat_eq v word_break) (further zs ws (λ n m. cut_mark semicolon (s.stmt p s.break)))
      (cut_choice (nat_eq v word_continue) (further zs ws (λ n m. cut_mark semicolon (s.stmt p s.continue)))
      (effects (Keyword p v) zs ws)))))))

  both_block_stmt : (n m : ℕ) → CutBoth n m (suc k) (block_stmt l) (block_stmt r)
  both_block_stmt n m = cut_map (λ (x : ℕ × StmtTrees). s.stmt x.0 (s.block x.1)) (both_block n m)

  pub both_stmt : (n m : ℕ) → CutBoth n m (suc k) (stmt_by b l) (stmt_by c r)
  unfolding stmt_by
  both_stmt n m = from_first (stmt_by b l) (stmt_by c r) (stmt_short b l words_front (both_block_stmt 0 0).front) (stmt_short c r words_whole (both_block_stmt 0 0).whole) by
    where
      by : (z : Terminal) (zs ws : List Terminal) → suc (length zs) < n → suc (length (zs ++ ws)) < m → IsCutUnless (suc k < suc (length (zs ++ ws))) ws (stmt_by b l (z ∷ zs)) (stmt_by c r (z ∷ zs ++ ws))
      by (Keyword p v) zs ws s s' = word_cut p v zs ws
      by (Punct p o) zs ws s s' = cut_choice (nat_eq o brace_open) ((both_block_stmt n m).cut (Punct p o ∷ zs) ws s s') (cut_choice (nat_eq o semicolon) both_give (effects (Punct p o) zs ws))
      by (Ident i) zs ws s s' = effects (Ident i) zs ws
      by (Literal p v) zs ws s s' = effects (Literal p v) zs ws
      by (Minimum p) zs ws s s' = effects (Minimum p) zs ws
      by (MinimumLong p) zs ws s s' = effects (MinimumLong p) zs ws

  -- local variables up to their `;`
  abbrev locals : Below → List Terminal → Reads StmtTree
  locals b xs = local_by b xs >>= λ r. closed semicolon r.0 r.1

  half_stmt : (i : Identifier) (xs : List Terminal) → IsHalfRead false (name_of (Ident i ∷ xs)) → Ends (stmt_by b l (Ident i ∷ xs))
  unfolding stmt_by effect_stmt_by
  half_stmt i xs x = ends_bind (effect_by b (Ident i ∷ xs)) _ (half_effect k b c h names i xs x) (λ r. refl)

  half_locals : (i : Identifier) (xs : List Terminal) → IsHalfRead false (name_of (Ident i ∷ xs)) → Ends (locals b (Ident i ∷ xs))
  half_locals i xs x = ends_bind (local_by b (Ident i ∷ xs)) _ (half_local k b c h names i xs x) (λ r. refl)

  pub both_bstmt : (n m : ℕ) → CutBoth n m (suc k) (bstmt_by b l) (bstmt_by c r)
  unfolding bstmt_by
  both_bstmt n m = cut_declares (locals b) (locals c) (stmt_by b l) (stmt_by c r) (cut_then _ _ (both_local k b c h names n m) (λ x. cut_mark semicolon x)) (both_stmt n m) (λ i xs x. (half_locals i xs x, half_stmt i xs x))

  module _ (less : (xs : List Terminal) (x : StmtTree × List Terminal) → bstmt_by b l xs ≡ gives x → length x.1 < length xs) where
    pub both_bstmts_up_to : (n m : ℕ) → CutBoth n m (suc k) (bstmts_up_to b l n) (bstmts_up_to c r m)
    unfolding bstmts_up_to
    both_bstmts_up_to = all_long_turns (bstmts_up_to b l) (bstmts_up_to c r) (λ xs. omega arith) (λ xs. omega arith) (λ n m more.
        cut_if ends_block (λ z zs ws. refl) (cut_done s.no_stmts) (cut_then_less _ _ (both_bstmt (suc n) (suc m)) less (λ x. cut_map (λ (xs : StmtTrees). s.stmts x xs) more)))

    pub both_bstmts : (n m : ℕ) → CutBoth n m (suc k) (bstmts_by b l) (bstmts_by c r)
    unfolding bstmts_by
    both_bstmts n m = long_turns_of (bstmts_up_to b l) (bstmts_up_to c r) both_bstmts_up_to

-- a statement of a block takes a terminal
pub bstmt_takes : (n : ℕ) (xs : List Terminal) (x : StmtTree × List Terminal) → bstmt_by (below n) (below_stmt n) xs ≡ gives x → length x.1 < length xs
unfolding bstmt_by
bstmt_takes n xs x e = elim (chosen (begins_local xs) _ _ _ e) [
  | inl w ↦ (let y = bind_ok (local_by (below n) xs) _ _ w.1 in
      let q = closed_ok semicolon y.0.0 y.0.1 x y.2 in
      let d = derives_local n xs y.0 y.1 in
      omega (arith, less_local d.0, ap length q.1))
  | inr w ↦ (let d = derives_stmt n xs x w.1 in less_stmt d.0)
]

-- at each depth of nesting
same_stmt : (n : ℕ) → StmtsBoth n (below_stmt n) (below_stmt n)
unfolding below_stmt
same_stmt zero = record { stmt = λ i j. refused_below _ (λ xs. omega arith); bstmts = λ i j. refused_below _ (λ xs. omega arith) }
same_stmt (suc n) = let g = same_stmt n in let h = both_below n n (omega arith) in
    record { stmt = both_stmt n (below n) (below n) h (names_below n) (below_stmt n) (below_stmt n) g; bstmts = both_bstmts n (below n) (below n) h (names_below n) (below_stmt n) (below_stmt n) g (bstmt_takes n) }

pub both_below_stmt : (n m : ℕ) → n ≤ m → StmtsBoth n (below_stmt n) (below_stmt m)
unfolding below_stmt
both_below_stmt zero m l = let g = same_stmt m in record { stmt = λ i j. refused_below (below_stmt m).stmt (g.stmt 0 0).whole; bstmts = λ i j. refused_below (below_stmt m).bstmts (g.bstmts 0 0).whole }
both_below_stmt (suc n) zero l = absurd (omega arith)
both_below_stmt (suc n) (suc m) l = let g = both_below_stmt n m (omega arith) in let h = both_below n m (omega arith) in
    record { stmt = both_stmt n (below n) (below m) h (names_below n) (below_stmt n) (below_stmt m) g; bstmts = both_bstmts n (below n) (below m) h (names_below n) (below_stmt n) (below_stmt m) g (bstmt_takes n) }
