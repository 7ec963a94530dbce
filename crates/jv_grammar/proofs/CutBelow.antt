-- Reading a front of terminals against reading them all: expressions and initializers, at each depth of nesting.
use Rattle.std.proofs.Common.{ℕ, zero, suc, ◌<◌, ◌≤◌, inl, inr, nat_eq, List, [], ◌∷◌, ◌++◌, length, arith, refl, Ok, Err}
use Rattle.std.specs.List.{list_any}
use Rattle.jv_tree.specs.ExprTree as t
use Rattle.jv_tree.specs.ExprTree.{ExprTree, InitTree, InitTrees}
use Rattle.jv_tree.specs.Shaped.{assignment_operators}
use Rattle.jv_grammar.specs.declared.terminal.Terminal.{Terminal}
use Rattle.jv_grammar.specs.declared.terminal.Terminal.TheVariants.{Ident, Keyword, Literal, Minimum, MinimumLong, Punct}
use Rattle.jv_grammar.specs.declared.form.Form.{Form}
use Rattle.jv_grammar.specs.declared.form.Form.TheVariants.{Target, Effect, Other}
use Rattle.jv_grammar.specs.Marks.{brace_open}
use Rattle.jv_grammar.specs.ExprGrammar.{at_of}
use Rattle.jv_grammar.specs.Reader.{Reads, ◌>>=◌}
use Rattle.jv_grammar.specs.ExprReader.{Parsed, Below, list_of, cond_of, assigned_to, assigned_of, expr_of, unary_of, init_of, below}
use Rattle.jv_grammar.proofs.Ending.{left_of, IsShort}
use Rattle.jv_grammar.proofs.CutBoth.{IsCutUnless, both_give, both_refuse, too_deep, CutBoth, looser, from_first, short_if, cut_choice, cut_then, cut_map}
use Rattle.jv_grammar.proofs.CutLists.{both_list}
use Rattle.jv_grammar.proofs.CutHeads.{BelowBoth}
use Rattle.jv_grammar.proofs.CutHalfExpr.{half_expr}
use Rattle.jv_grammar.proofs.CutUnary.{ReadsNames}
use Rattle.jv_grammar.proofs.CutExpr.{both_unary, both_cond}

-- the right side of an assignment, and what may stand as an initializer
abbrev assign : Below → ExprTree → ℕ → ℕ → List Terminal → Reads Parsed
assign b e p o xs = b.expr xs >>= λ r. Ok ((Effect, t.expr (at_of e) (t.assign p o e r.0.1)), r.1)

abbrev of_expr : Below → List Terminal → Reads InitTree
of_expr b xs = expr_of b xs >>= λ r. Ok (t.one r.0.1, r.1)

abbrev of_list : Below → ℕ → List Terminal → Reads InitTree
of_list b p xs = list_of b.init xs >>= λ r. Ok (t.list p r.0, r.1)

to_short : (b : Below) → ((e : ExprTree) (p o : ℕ) → IsShort (assign b e p o)) → (f : Form) (e : ExprTree) (p o : ℕ) (xs : List Terminal) → length (left_of (assigned_to b f e p o xs)) ≤ suc (length xs)
to_short b s Target e p o xs = let l = s e p o xs in omega (arith, l)
to_short b s Effect e p o xs = omega arith
to_short b s Other e p o xs = omega arith

assigned_short : (b : Below) → ((e : ExprTree) (p o : ℕ) → IsShort (assign b e p o)) → (r : Parsed) → IsShort (assigned_of b r)
assigned_short b s r [] = omega arith
assigned_short b s r (Punct p o ∷ xs) = short_if (list_any (nat_eq o) assignment_operators) (assigned_to b r.0 r.1 p o xs) (Ok (r, Punct p o ∷ xs)) (Punct p o ∷ xs) (to_short b s r.0 r.1 p o xs) (omega arith)
assigned_short b s r (x ∷ xs) = omega arith

init_short : (b : Below) → IsShort (of_expr b) → ((p : ℕ) → IsShort (of_list b p)) → IsShort (init_of b)
unfolding init_of
init_short b s s' [] = s []
init_short b s s' (Punct p o ∷ xs) = short_if (nat_eq o brace_open) (of_list b p (Punct p o ∷ xs)) (of_expr b (Punct p o ∷ xs)) (Punct p o ∷ xs) (s' p (Punct p o ∷ xs)) (s (Punct p o ∷ xs))
init_short b s s' (x ∷ xs) = s (x ∷ xs)

module _ (k : ℕ) (b c : Below) (h : BelowBoth k b c) (names : ReadsNames k b) where
  both_assign : (e : ExprTree) (p o n m : ℕ) → CutBoth n m k (assign b e p o) (assign c e p o)
  both_assign e p o n m = cut_map (λ (x : Parsed). (Effect, t.expr (at_of e) (t.assign p o e x.1))) (h.expr n m)

  to_cut : (f : Form) (e : ExprTree) (p o : ℕ) (zs ws : List Terminal) → IsCutUnless (suc k < suc (length (zs ++ ws))) ws (assigned_to b f e p o zs) (assigned_to c f e p o (zs ++ ws))
  to_cut Target e p o zs ws = looser (λ d. omega arith) ((both_assign e p o (suc (length zs)) (suc (length (zs ++ ws)))).cut zs ws (omega arith) (omega arith))
  to_cut Effect e p o zs ws = both_refuse
  to_cut Other e p o zs ws = both_refuse

  both_assigned : (r : Parsed) (n m : ℕ) → CutBoth n m (suc k) (assigned_of b r) (assigned_of c r)
  both_assigned r n m = from_first (assigned_of b r) (assigned_of c r) (assigned_short b (λ e p o. (both_assign e p o 0 0).front) r) (assigned_short c (λ e p o. (both_assign e p o 0 0).whole) r) by
    where
      by : (z : Terminal) (zs ws : List Terminal) → suc (length zs) < n → suc (length (zs ++ ws)) < m → IsCutUnless (suc k < suc (length (zs ++ ws))) ws (assigned_of b r (z ∷ zs)) (assigned_of c r (z ∷ zs ++ ws))
      by (Punct p o) zs ws l l' = cut_choice (list_any (nat_eq o) assignment_operators) (to_cut r.0 r.1 p o zs ws) both_give
      by (Ident i) zs ws l l' = both_give
      by (Keyword q v) zs ws l l' = both_give
      by (Literal q v) zs ws l l' = both_give
      by (Minimum q) zs ws l l' = both_give
      by (MinimumLong q) zs ws l l' = both_give

  pub both_expr : (n m : ℕ) → CutBoth n m (suc k) (expr_of b) (expr_of c)
  unfolding expr_of
  both_expr n m = cut_then _ _ (both_cond k b c h names n m) (λ r. both_assigned r n m)

  both_of_expr : (n m : ℕ) → CutBoth n m (suc k) (of_expr b) (of_expr c)
  both_of_expr n m = cut_map (λ (x : Parsed). t.one x.1) (both_expr n m)

  both_of_list : (p n m : ℕ) → CutBoth n m (suc k) (of_list b p) (of_list c p)
  both_of_list p n m = cut_map (λ (is : InitTrees). t.list p is) (both_list k b.init c.init h.init n m)

  pub both_init : (n m : ℕ) → CutBoth n m (suc k) (init_of b) (init_of c)
  unfolding init_of
  both_init n m = from_first (init_of b) (init_of c) (init_short b (both_of_expr 0 0).front (λ p. (both_of_list p 0 0).front)) (init_short c (both_of_expr 0 0).whole (λ p. (both_of_list p 0 0).whole)) by
    where
      by : (z : Terminal) (zs ws : List Terminal) → suc (length zs) < n → suc (length (zs ++ ws)) < m → IsCutUnless (suc k < suc (length (zs ++ ws))) ws (init_of b (z ∷ zs)) (init_of c (z ∷ zs ++ ws))
      by (Punct p o) zs ws l l' = cut_choice (nat_eq o brace_open) ((both_of_list p n m).cut (Punct p o ∷ zs) ws l l') ((both_of_expr n m).cut (Punct p o ∷ zs) ws l l')
      by (Ident i) zs ws l l' = (both_of_expr n m).cut (Ident i ∷ zs) ws l l'
      by (Keyword q v) zs ws l l' = (both_of_expr n m).cut (Keyword q v ∷ zs) ws l l'
      by (Literal q v) zs ws l l' = (both_of_expr n m).cut (Literal q v ∷ zs) ws l l'
      by (Minimum q) zs ws l l' = (both_of_expr n m).cut (Minimum q ∷ zs) ws l l'
      by (MinimumLong q) zs ws l l' = (both_of_expr n m).cut (MinimumLong q ∷ zs) ws l l'

  -- one level deeper
  deeper : BelowBoth (suc k) (record { expr = expr_of b; cond = cond_of b; unary = unary_of b; init = init_of b }) (record { expr = expr_of c; cond = cond_of c; unary = unary_of c; init = init_of c })
  deeper = record { expr = both_expr; cond = both_cond k b c h names; unary = both_unary k b c h names; init = both_init }

-- what may nest no deeper refuses at once
pub refused_below : {A : Type 0} {n m : ℕ} (q : List Terminal → Reads A) → IsShort q → CutBoth n m 0 (λ xs. Err xs) q
refused_below q s = from_first (λ xs. Err xs) q (λ xs. omega arith) s (λ z zs ws l l'. too_deep (omega arith) (s (z ∷ zs ++ ws)))

names_from : (n : ℕ) → BelowBoth n (below n) (below n) → ReadsNames (suc n) (below (suc n))
unfolding below
names_from n h i xs x = inl (half_expr (below n) (h.expr 0 0).front i xs x)

same_below : (n : ℕ) → BelowBoth n (below n) (below n) × ReadsNames n (below n)
unfolding below
same_below zero = (record { expr = λ n m. refused_below _ (λ xs. omega arith); cond = λ n m. refused_below _ (λ xs. omega arith); unary = λ n m. refused_below _ (λ xs. omega arith); init = λ n m. refused_below _ (λ xs. omega arith) }, λ i xs x. inr (refl, refl))
same_below (suc n) = let h = same_below n in (deeper n (below n) (below n) h.0 h.1, names_from n h.0)

pub names_below : (n : ℕ) → ReadsNames n (below n)
names_below n = (same_below n).1

pub both_below : (n m : ℕ) → n ≤ m → BelowBoth n (below n) (below m)
unfolding below
both_below zero m l = let h = (same_below m).0 in
    record { expr = λ i j. refused_below (below m).expr (h.expr 0 0).whole; cond = λ i j. refused_below (below m).cond (h.cond 0 0).whole; unary = λ i j. refused_below (below m).unary (h.unary 0 0).whole; init = λ i j. refused_below (below m).init (h.init 0 0).whole }
both_below (suc n) zero l = absurd (omega arith)
both_below (suc n) (suc m) l = deeper n (below n) (below m) (both_below n m (omega arith)) (names_below n)
