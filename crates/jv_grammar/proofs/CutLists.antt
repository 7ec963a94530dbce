-- Reading a front of terminals against reading them all: expressions and initializers with commas between them, arguments, lists and sizes.
use Rattle.std.proofs.Common.{ℕ, suc, List, arith, Ok, if◌then◌else◌}
use Rattle.jv_tree.specs.ExprTree as t
use Rattle.jv_tree.specs.ExprTree.{InitTree, ExprTrees, InitTrees}
use Rattle.jv_grammar.specs.declared.terminal.Terminal.{Terminal}
use Rattle.jv_grammar.specs.Marks.{paren_open, paren_close, brace_open, brace_close, comma}
use Rattle.jv_grammar.specs.TypeGrammar.{starts}
use Rattle.jv_grammar.specs.Reader.{Reads, ◌>>=◌, rest_of, closed}
use Rattle.jv_grammar.specs.ExprReader.{Parsed, exprs_of, args_of, inits_of, list_of}
use Rattle.jv_grammar.proofs.CutBoth.{CutBoth, cut_then, cut_done, cut_none, cut_map, cut_turn, cut_next, cut_if, cut_mark}
use Rattle.jv_grammar.proofs.CutTurns.{all_turns, turns_under}
use Rattle.jv_grammar.proofs.CutTypes.{first_mark}

-- Readers of expressions, of which one may nest k deep.
module _ (k : ℕ) (p q : List Terminal → Reads Parsed) (h : (n m : ℕ) → CutBoth n m k p q) where
  pub both_exprs : (c e : ℕ) → CutBoth (suc c) (suc e) k (exprs_of p c) (exprs_of q e)
  unfolding exprs_of
  both_exprs = all_turns (exprs_of p) (exprs_of q) (λ xs. omega arith) (λ xs. omega arith) (λ c e more.
      cut_then _ _ (h _ _) (λ x. cut_if (starts comma) (first_mark _) (cut_turn (cut_map (λ (es : ExprTrees). t.exprs x.1 es) more)) (cut_done (t.exprs x.1 t.no_exprs))))

  -- what stands behind the `(` of arguments
  abbrev inside : (List Terminal → Reads Parsed) → ℕ → List Terminal → Reads ExprTrees
  inside r c xs = if starts paren_close xs then Ok (t.no_exprs, rest_of xs) else (exprs_of r c xs >>= λ r. closed paren_close r.0 r.1)

  both_inside : (c e : ℕ) → CutBoth (suc c) (suc e) k (inside p c) (inside q e)
  both_inside c e = cut_if (starts paren_close) (first_mark _) (cut_next (cut_done t.no_exprs)) (cut_then _ _ (both_exprs c e) (λ es. cut_mark paren_close es))

  pub both_args : (n m : ℕ) → CutBoth n m (suc k) (args_of p) (args_of q)
  unfolding args_of
  both_args n m = cut_if (starts paren_open) (first_mark _) (turns_under (inside p) (inside q) both_inside) cut_none

module _ (k : ℕ) (p q : List Terminal → Reads InitTree) (h : (n m : ℕ) → CutBoth n m k p q) where
  -- what stands behind the comma of an element
  abbrev goes_on : (List Terminal → Reads InitTree) → InitTree → ℕ → List Terminal → Reads InitTrees
  goes_on r i c xs = if starts brace_close xs then Ok (t.inits i t.no_inits, rest_of xs) else (inits_of r c xs >>= λ s. Ok (t.inits i s.0, s.1))

  pub both_inits : (c e : ℕ) → CutBoth (suc c) (suc e) k (inits_of p c) (inits_of q e)
  unfolding inits_of
  both_inits = all_turns (inits_of p) (inits_of q) (λ xs. omega arith) (λ xs. omega arith) (λ c e more.
      cut_then _ _ (h _ _) (λ x. cut_if (starts comma) (first_mark _)
      (cut_turn {p = goes_on p x c} {q = goes_on q x e} (cut_if (starts brace_close) (first_mark _) (cut_next (cut_done (t.inits x t.no_inits))) (cut_map (λ (is : InitTrees). t.inits x is) more)))
      (cut_mark brace_close (t.inits x t.no_inits))))

  -- what stands behind the `{` of a list
  abbrev elements : (List Terminal → Reads InitTree) → ℕ → List Terminal → Reads InitTrees
  elements r c xs = if starts brace_close xs then Ok (t.no_inits, rest_of xs) else if starts comma xs then closed brace_close t.no_inits (rest_of xs) else inits_of r c xs

  both_elements : (c e : ℕ) → CutBoth (suc c) (suc e) k (elements p c) (elements q e)
  both_elements c e = cut_if (starts brace_close) (first_mark _) (cut_next (cut_done t.no_inits)) (cut_if (starts comma) (first_mark _) (cut_next (cut_mark brace_close t.no_inits)) (both_inits c e))

  pub both_list : (n m : ℕ) → CutBoth n m (suc k) (list_of p) (list_of q)
  unfolding list_of
  both_list n m = cut_if (starts brace_open) (first_mark _) (turns_under (elements p) (elements q) both_elements) cut_none
