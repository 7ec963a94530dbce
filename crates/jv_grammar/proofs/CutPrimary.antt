-- Reading a front of terminals against reading them all: heads, and what stands behind them.
use Rattle.std.proofs.Common.{ℕ, suc, ◌<◌, ◌≤◌, Bool, true, false, cond, nat_eq, List, [], ◌∷◌, ◌++◌, length, arith, refl, Ok, Err}
use Rattle.std.proofs.lemmas.List.{length-append}
use Rattle.jv_tree.specs.declared.name.Ident.{Ident as Identifier}
use Rattle.jv_tree.specs.ExprTree as t
use Rattle.jv_tree.specs.ExprTree.{ExprTree, ExprTrees}
use Rattle.jv_grammar.specs.declared.terminal.Terminal.{Terminal}
use Rattle.jv_grammar.specs.declared.terminal.Terminal.TheVariants.{Ident, Keyword, Literal, Minimum, MinimumLong, Punct}
use Rattle.jv_grammar.specs.declared.form.Form.{Form}
use Rattle.jv_grammar.specs.declared.form.Form.TheVariants.{Target, Effect, Other}
use Rattle.jv_grammar.specs.Marks.{paren_open, paren_close, bracket_open, bracket_close, dot, word_new, word_super, word_this}
use Rattle.jv_grammar.specs.TypeGrammar.{is_mark, starts}
use Rattle.jv_grammar.specs.ExprGrammar.{at_of, kind_of}
use Rattle.jv_grammar.specs.Reader.{Reads, ◌>>=◌, closed}
use Rattle.jv_grammar.specs.ExprReader.{Parsed, Below, args_of, new_of, super_of, run_of, head_of, suffixes_of, primary_of, member_of}
use Rattle.jv_grammar.proofs.Ending.{left_of, Ends, IsShort}
use Rattle.jv_grammar.proofs.Cut.{left_bind}
use Rattle.jv_grammar.proofs.CutBoth.{IsCutUnless, both_end, both_give, both_refuse, CutBoth, looser, from_first, short_if, shorter, shortly, cut_behind, cut_then, cut_done, cut_map, cut_turn, cut_if, cut_mark}
use Rattle.jv_grammar.proofs.CutTurns.{each_long_turn}
use Rattle.jv_grammar.proofs.CutTypes.{first_mark}
use Rattle.jv_grammar.proofs.CutLists.{both_args}
use Rattle.jv_grammar.proofs.CutHeads.{BelowBoth, both_new, both_super, both_member, whole_member, member_calls}
use Rattle.jv_grammar.proofs.Heads.{Run}
use Rattle.jv_grammar.proofs.CutRun.{IsHalf, half_name, half_dot, FromDot, in_rest, at_dot, at_call, IsRunCut, run_same, run_half, run_short, run_cut}

-- the suffixes behind a head, of which a first terminal is not among zs
abbrev pub suffixed : Below → ℕ → Parsed × List Terminal → Reads Parsed
suffixed b n r = suffixes_of b (suc (suc n)) r.0.0 r.0.1 r.1

-- a call of a bare method, and an expression in parentheses, behind their first terminal
abbrev pub bare_call : Below → Identifier → List Terminal → Reads Parsed
bare_call b i xs = args_of b.expr xs >>= λ r. Ok ((Effect, t.expr i.at (t.call t.bare i r.0)), r.1)

abbrev pub in_parens : Below → ℕ → List Terminal → Reads Parsed
in_parens b p xs = b.expr xs >>= λ r. closed paren_close (Other, t.expr p (kind_of r.0.1)) r.1

abbrev this : ℕ → List Terminal → Reads Parsed
this p xs = Ok ((Other, t.expr p t.this), xs)

abbrev pub bare_name : Identifier → Run → Reads Parsed
bare_name i r = Ok ((Target, t.expr i.at (t.name (i ∷ r.0))), r.1)

module _ (k : ℕ) (b c : Below) (h : BelowBoth k b c) where
  abbrev loop : Below → Parsed → ℕ → List Terminal → Reads Parsed
  loop b i n = suffixes_of b n i.0 i.1

  -- an index behind its `[`
  abbrev indexed : Below → ExprTree → ℕ → List Terminal → Reads Parsed
  indexed b e n xs = b.expr xs >>= λ r. closed bracket_close r.0.1 r.1 >>= λ s. suffixes_of b n Target (t.expr (at_of e) (t.index e s.0)) s.1

  -- a field or a call behind its dot
  abbrev selected : Below → ExprTree → ℕ → List Terminal → Reads Parsed
  selected b e n = member_of b.expr (suffixes_of b n) (at_of e) (t.on e) (t.field e)

  pub both_suffixes : (n m : ℕ) (i : Parsed) → CutBoth n m k (loop b i n) (loop c i m)
  unfolding suffixes_of
  both_suffixes = each_long_turn (loop b) (loop c) (λ i xs. omega arith) (λ i xs. omega arith) (λ n m more i.
      cut_if (starts bracket_open) (first_mark _)
      (cut_turn {p = indexed b i.1 n} {q = indexed c i.1 m} (cut_then _ _ (h.expr n m) (λ x. cut_then _ _ (cut_mark bracket_close x.1) (λ y. more (Target, t.expr (at_of i.1) (t.index i.1 y))))))
      (cut_if (starts dot) (first_mark _)
      (cut_turn {p = selected b i.1 n} {q = selected c i.1 m} (both_member k b c h (suffixes_of b n) (suffixes_of c m) (λ f e. more (f, e)) (at_of i.1) (t.on i.1) (t.field i.1)))
      (cut_done i)))

  -- the suffixes behind what is not read in a front
  from_dot : {ws us : List Terminal} (n : ℕ) (f : Form) (e : ExprTree) → FromDot ws us → length (left_of (suffixes_of c (suc n) f e us)) ≤ length ws
  unfolding suffixes_of
  from_dot n f e (in_rest {us} l) = omega (arith, (both_suffixes 0 (suc n) (f, e)).whole us, l)
  from_dot n f e (at_dot {us} l) =
      let s = whole_member k b c h {n = 0} {m = n} (suffixes_of b 0) (suffixes_of c n) (λ f e. both_suffixes 0 n (f, e)) (at_of e) (t.on e) (t.field e) us in omega (arith, s, l)
  from_dot n f e (at_call {i} {us} l) =
      let s = member_calls k b c h {n = 0} {m = n} (suffixes_of b 0) (suffixes_of c n) (λ f e. both_suffixes 0 n (f, e)) (at_of e) (t.on e) (t.field e) i us in omega (arith, s, l)

  half_ends : {us : List Terminal} (n : ℕ) (f : Form) (e : ExprTree) → IsHalf us → Ends (suffixes_of b (suc n) f e us)
  unfolding suffixes_of
  half_ends n f e half_name = refl
  half_ends n f e half_dot = refl

  -- a name and its suffixes
  abbrev named : Below → ℕ → Identifier → Run → Reads Parsed
  named b n i r = suffixes_of b (suc (suc n)) Target (t.expr i.at (t.name (i ∷ r.0))) r.1

  named_both : {ws : List Terminal} {q r : Run} (i : Identifier) (n m : ℕ) → IsRunCut ws q r → length q.1 ≤ n → length (q.1 ++ ws) ≤ m → IsCutUnless (k < length (q.1 ++ ws)) ws (named b n i q) (named c m i r)
  named_both {ws} i n m (run_same {ids} {ys}) l l' = (cut_names ids).cut ys ws (omega arith) (omega arith)
    where
      cut_names : (ids : List Identifier) → CutBoth (suc (suc n)) (suc (suc m)) k (loop b (Target, t.expr i.at (t.name (i ∷ ids))) (suc (suc n))) (loop c (Target, t.expr i.at (t.name (i ∷ ids))) (suc (suc m)))
      cut_names ids = both_suffixes (suc (suc n)) (suc (suc m)) (Target, t.expr i.at (t.name (i ∷ ids)))
  named_both i n m (run_half {q} {r} x f) l l' = both_end (half_ends (suc n) Target (t.expr i.at (t.name (i ∷ q.0))) x) (from_dot (suc m) Target (t.expr i.at (t.name (i ∷ r.0))) f)

  both_behind_head : (zs ws : List Terminal) {q r : Reads Parsed} → IsCutUnless (suc k < suc (length (zs ++ ws))) ws q r → length (left_of q) ≤ length zs
      → IsCutUnless (suc k < suc (length (zs ++ ws))) ws (q >>= suffixed b (length zs)) (r >>= suffixed c (length (zs ++ ws)))
  both_behind_head zs ws {q} {r} x l = cut_behind (suffixed b (length zs)) (suffixed c (length (zs ++ ws))) x
      (λ y e. let s = shortly q zs ws l y e in let t = shorter q zs l y e in (omega (arith, t), omega (arith, s), λ d. omega (arith, s, d)))
      (λ i. both_suffixes (suc (suc (length zs))) (suc (suc (length (zs ++ ws)))) i)

  both_call : (i : Identifier) (n m : ℕ) → CutBoth n m (suc k) (bare_call b i) (bare_call c i)
  both_call i n m = cut_map (λ (es : ExprTrees). (Effect, t.expr i.at (t.call t.bare i es))) (both_args k b.expr c.expr h.expr n m)

  both_parens : (p n m : ℕ) → CutBoth n m k (in_parens b p) (in_parens c p)
  both_parens p n m = cut_then _ _ (h.expr n m) (λ x. cut_mark paren_close (Other, t.expr p (kind_of x.1)))

-- what is left of a head
head_left : (b : Below) → ((i : Identifier) → IsShort (bare_call b i)) → ((p : ℕ) → IsShort (super_of b p)) → ((p : ℕ) → IsShort (new_of b p))
    → ((p : ℕ) → IsShort (in_parens b p)) → IsShort (head_of b)
unfolding head_of
head_left b s s' s'' s''' [] = omega arith
head_left b s s' s'' s''' (Ident i ∷ xs) =
    let l = short_if (starts paren_open xs) (bare_call b i xs) (bare_name i (run_of xs)) xs (s i xs) (run_short xs) in omega (arith, l)
head_left b s s' s'' s''' (Literal p l ∷ xs) = omega arith
head_left b s s' s'' s''' (Keyword p v ∷ xs) =
    short_if (nat_eq v word_this) (this p xs) _ (Keyword p v ∷ xs) (omega arith)
    (short_if (nat_eq v word_super) (super_of b p xs) _ (Keyword p v ∷ xs) (omega (arith, s' p xs))
    (short_if (nat_eq v word_new) (new_of b p xs) (Err (Keyword p v ∷ xs)) (Keyword p v ∷ xs) (omega (arith, s'' p xs)) (omega arith)))
head_left b s s' s'' s''' (Punct p o ∷ xs) =
    let l = s''' p xs in
    short_if (nat_eq o paren_open) (in_parens b p xs) (Err (Punct p o ∷ xs)) (Punct p o ∷ xs) (omega (arith, l)) (omega arith)
head_left b s s' s'' s''' (x ∷ xs) = omega arith

module _ (k : ℕ) (b c : Below) (h : BelowBoth k b c) where
  front_primary : IsShort (primary_of b)
  unfolding primary_of
  front_primary xs =
      let l = head_left b (λ i. (both_call k b c h i 0 0).front) (λ p. (both_super k b c h p 0 0).front) (λ p. (both_new k b c h p 0 0).front) (λ p. (both_parens k b c h p 0 0).front) xs in
      let l' = left_bind (head_of b xs) (λ r. suffixes_of b (suc (length xs)) r.0.0 r.0.1 r.1) (λ i. (both_suffixes k b c h (suc (length xs)) 0 i).front) in
      omega (arith, l, l')

  whole_primary : IsShort (primary_of c)
  unfolding primary_of
  whole_primary xs =
      let l = head_left c (λ i. (both_call k b c h i 0 0).whole) (λ p. (both_super k b c h p 0 0).whole) (λ p. (both_new k b c h p 0 0).whole) (λ p. (both_parens k b c h p 0 0).whole) xs in
      let l' = left_bind (head_of c xs) (λ r. suffixes_of c (suc (length xs)) r.0.0 r.0.1 r.1) (λ i. (both_suffixes k b c h 0 (suc (length xs)) i).whole) in
      omega (arith, l, l')

  -- an identifier alone
  call_left : (i : Identifier) (ws : List Terminal) → length (left_of (primary_of c (Ident i ∷ ws))) ≤ length ws
  unfolding primary_of head_of
  call_left i ws =
      let l = short_if (starts paren_open ws) (bare_call c i ws) (bare_name i (run_of ws)) ws ((both_call k b c h i 0 0).whole ws) (run_short ws) in
      let l' = left_bind (cond (starts paren_open ws) (bare_call c i ws) (bare_name i (run_of ws))) (λ r. suffixes_of c (suc (suc (length ws))) r.0.0 r.0.1 r.1) (λ j. (both_suffixes k b c h 0 (suc (suc (length ws))) j).whole) in
      omega (arith, l, l')

  alone_ends : (i : Identifier) → Ends (primary_of b (Ident i ∷ []))
  unfolding primary_of head_of run_of suffixes_of
  alone_ends i = refl

  -- a head behind its first terminal
  by_name : (i : Identifier) (zs ws : List Terminal) (u : Bool)
      → IsCutUnless (suc k < suc (length (zs ++ ws))) ws (cond u (bare_call b i zs) (bare_name i (run_of zs)) >>= suffixed b (length zs)) (cond u (bare_call c i (zs ++ ws)) (bare_name i (run_of (zs ++ ws))) >>= suffixed c (length (zs ++ ws)))
  by_name i zs ws true = both_behind_head k b c h zs ws (looser (λ d. omega arith) ((both_call k b c h i (suc (length zs)) (suc (length (zs ++ ws)))).cut zs ws (omega arith) (omega arith))) ((both_call k b c h i 0 0).front zs)
  by_name i zs ws false =
      let l = run_short zs in
      let a = length-append (run_of zs).1 ws in
      let a' = length-append zs ws in
      looser (λ d. omega (arith, d, l, a, a')) (named_both k b c h i (length zs) (length (zs ++ ws)) (run_cut zs ws) l (omega (arith, l, a, a')))

  by_word : (p v : ℕ) (zs ws : List Terminal) (u u' u'' : Bool)
      → IsCutUnless (suc k < suc (length (zs ++ ws))) ws (cond u (this p zs) (cond u' (super_of b p zs) (cond u'' (new_of b p zs) (Err (Keyword p v ∷ zs)))) >>= suffixed b (length zs))
      (cond u (this p (zs ++ ws)) (cond u' (super_of c p (zs ++ ws)) (cond u'' (new_of c p (zs ++ ws)) (Err (Keyword p v ∷ zs ++ ws)))) >>= suffixed c (length (zs ++ ws)))
  by_word p v zs ws true u' u'' = both_behind_head k b c h zs ws both_give (omega arith)
  by_word p v zs ws false true u'' = both_behind_head k b c h zs ws (looser (λ d. omega arith) ((both_super k b c h p (suc (length zs)) (suc (length (zs ++ ws)))).cut zs ws (omega arith) (omega arith))) ((both_super k b c h p 0 0).front zs)
  by_word p v zs ws false false true = both_behind_head k b c h zs ws (looser (λ d. omega arith) ((both_new k b c h p (suc (length zs)) (suc (length (zs ++ ws)))).cut zs ws (omega arith) (omega arith))) ((both_new k b c h p 0 0).front zs)
  by_word p v zs ws false false false = both_refuse

  by_mark : (p o : ℕ) (zs ws : List Terminal) (u : Bool)
      → IsCutUnless (suc k < suc (length (zs ++ ws))) ws (cond u (in_parens b p zs) (Err (Punct p o ∷ zs)) >>= suffixed b (length zs)) (cond u (in_parens c p (zs ++ ws)) (Err (Punct p o ∷ zs ++ ws)) >>= suffixed c (length (zs ++ ws)))
  by_mark p o zs ws true = both_behind_head k b c h zs ws (looser (λ d. omega arith) ((both_parens k b c h p (suc (length zs)) (suc (length (zs ++ ws)))).cut zs ws (omega arith) (omega arith))) ((both_parens k b c h p 0 0).front zs)
  by_mark p o zs ws false = both_refuse

  pub both_primary : (n m : ℕ) → CutBoth n m (suc k) (primary_of b) (primary_of c)
  unfolding primary_of head_of
  both_primary n m = from_first (primary_of b) (primary_of c) front_primary whole_primary by
    where
      by : (z : Terminal) (zs ws : List Terminal) → suc (length zs) < n → suc (length (zs ++ ws)) < m → IsCutUnless (suc k < suc (length (zs ++ ws))) ws (primary_of b (z ∷ zs)) (primary_of c (z ∷ zs ++ ws))
      by (Ident i) [] ws l l' = both_end (alone_ends i) (call_left i ws)
      by (Ident i) (z ∷ zs) ws l l' = by_name i (z ∷ zs) ws (is_mark paren_open z)
      by (Literal p v) zs ws l l' = both_behind_head k b c h zs ws both_give (omega arith)
      by (Keyword p v) zs ws l l' = by_word p v zs ws (nat_eq v word_this) (nat_eq v word_super) (nat_eq v word_new)
      by (Punct p o) zs ws l l' = by_mark p o zs ws (nat_eq o paren_open)
      by (Minimum p) zs ws l l' = both_refuse
      by (MinimumLong p) zs ws l l' = both_refuse
