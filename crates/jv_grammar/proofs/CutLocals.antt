-- Reading a front of terminals against reading them all: local variables, effects and what a `for` has in its parentheses.
use Rattle.std.proofs.Common.{ℕ, suc, ◌<◌, true, false, nat_eq, List, [], ◌∷◌, ◌++◌, length, arith, refl, Option, None, Some, Ok}
use Rattle.jv_tree.specs.declared.name.Ident.{Ident as Identifier}
use Rattle.jv_tree.specs.ExprTree as t
use Rattle.jv_tree.specs.ExprTree.{ExprTree, ExprTrees, InitTree}
use Rattle.jv_tree.specs.StmtTree as s
use Rattle.jv_tree.specs.StmtTree.{VarTree, StmtTree, StmtTrees}
use Rattle.jv_grammar.specs.declared.terminal.Terminal.{Terminal}
use Rattle.jv_grammar.specs.declared.terminal.Terminal.TheVariants.{Ident, Keyword, Literal, Minimum, MinimumLong, Punct}
use Rattle.jv_grammar.specs.Marks.{paren_open, paren_close, semicolon, comma, equals_sign, word_final}
use Rattle.jv_grammar.specs.TypeGrammar.{starts}
use Rattle.jv_grammar.specs.StmtGrammar.{effect_stmts}
use Rattle.jv_grammar.specs.Reader.{Reads, ◌>>=◌, closed}
use Rattle.jv_grammar.specs.TypeReader.{name_of, ty_of}
use Rattle.jv_grammar.specs.ExprReader.{Parsed, Below, expr_of}
use Rattle.jv_grammar.specs.StmtReader.{behind, init_for, var_by, vars_up_to, vars_by, final_by, plain_by, local_by, is_effect, effect_by, effects_up_to, effects_by, first_by, optional_by, updates_by, paren_by, ForHead, for_head_by}
use Rattle.jv_grammar.proofs.Ending.{Ends, IsShort}
use Rattle.jv_grammar.proofs.Goes.{ends_bind}
use Rattle.jv_grammar.proofs.Cut.{none_left}
use Rattle.jv_grammar.proofs.CutBoth.{IsCutUnless, CutBoth, looser, from_first, short_if, cut_choice, cut_then, cut_done, cut_none, cut_map, cut_turn, cut_next, cut_if, cut_case, cut_mark}
use Rattle.jv_grammar.proofs.CutTurns.{all_turns, turns_of}
use Rattle.jv_grammar.proofs.CutTypes.{first_mark, both_ty}
use Rattle.jv_grammar.proofs.CutHeads.{BelowBoth}
use Rattle.jv_grammar.proofs.CutHalf.{IsHalfRead}
use Rattle.jv_grammar.proofs.CutHalfExpr.{half_expr, ended_expr}
use Rattle.jv_grammar.proofs.CutUnary.{ReadsNames}
use Rattle.jv_grammar.proofs.CutBelow.{both_expr, both_init}
use Rattle.jv_grammar.proofs.CutForms.{cut_on_ident, cut_behind_test, cut_declares, half_ty}

local_short : (b : Below) → ((p : ℕ) → IsShort (final_by b p)) → IsShort (plain_by b) → IsShort (local_by b)
unfolding local_by
local_short b s s' [] = s' []
local_short b s s' (Keyword p k ∷ xs) = short_if (nat_eq k word_final) (final_by b p xs) (plain_by b (Keyword p k ∷ xs)) (Keyword p k ∷ xs) (let l = s p xs in omega (arith, l)) (s' (Keyword p k ∷ xs))
local_short b s s' (x ∷ xs) = s' (x ∷ xs)

module _ (k : ℕ) (b c : Below) (h : BelowBoth k b c) (names : ReadsNames k b) where
  both_init_for : (i : Identifier) (n m : ℕ) → CutBoth n m (suc k) (init_for b i) (init_for c i)
  both_init_for i n m = cut_if (starts equals_sign) (first_mark _) (cut_next (cut_map (λ (x : InitTree). record { name = i; init = Some x }) (both_init k b c h names n m))) (cut_done (record { name = i; init = None }))

  pub both_var : (n m : ℕ) → CutBoth n m (suc k) (var_by b) (var_by c)
  unfolding var_by
  both_var n m = cut_on_ident (init_for b) (init_for c) (λ i. both_init_for i n m)

  pub both_vars_up_to : (n m : ℕ) → CutBoth (suc n) (suc m) (suc k) (vars_up_to b n) (vars_up_to c m)
  unfolding vars_up_to
  both_vars_up_to = all_turns (vars_up_to b) (vars_up_to c) (λ xs. omega arith) (λ xs. omega arith) (λ n m more.
      cut_then _ _ (both_var _ _) (λ x. cut_if (starts comma) (first_mark _) (cut_turn (cut_map (λ (vs : List VarTree). x ∷ vs) more)) (cut_done (x ∷ []))))

  pub both_vars : (n m : ℕ) → CutBoth n m (suc k) (vars_by b) (vars_by c)
  unfolding vars_by
  both_vars n m = turns_of (vars_up_to b) (vars_up_to c) both_vars_up_to

  pub both_final : (p n m : ℕ) → CutBoth n m (suc k) (final_by b p) (final_by c p)
  unfolding final_by
  both_final p n m = cut_then _ _ (both_ty n m (suc k)) (λ r. cut_map (λ (vs : List VarTree). s.stmt p (s.local true r vs)) (both_vars n m))

  pub both_plain : (n m : ℕ) → CutBoth n m (suc k) (plain_by b) (plain_by c)
  unfolding plain_by
  both_plain n m = cut_then _ _ (both_ty n m (suc k)) (λ r. cut_map (λ (vs : List VarTree). s.stmt r.at (s.local false r vs)) (both_vars n m))

  pub both_local : (n m : ℕ) → CutBoth n m (suc k) (local_by b) (local_by c)
  unfolding local_by
  both_local n m = from_first (local_by b) (local_by c) (local_short b (λ p. (both_final p 0 0).front) (both_plain 0 0).front) (local_short c (λ p. (both_final p 0 0).whole) (both_plain 0 0).whole) by
    where
      by : (z : Terminal) (zs ws : List Terminal) → suc (length zs) < n → suc (length (zs ++ ws)) < m → IsCutUnless (suc k < suc (length (zs ++ ws))) ws (local_by b (z ∷ zs)) (local_by c (z ∷ zs ++ ws))
      by (Keyword p v) zs ws l l' = cut_choice (nat_eq v word_final) (looser (λ d. omega arith) ((both_final p n m).cut zs ws (omega arith) (omega arith))) ((both_plain n m).cut (Keyword p v ∷ zs) ws l l')
      by (Ident i) zs ws l l' = (both_plain n m).cut (Ident i ∷ zs) ws l l'
      by (Literal p v) zs ws l l' = (both_plain n m).cut (Literal p v ∷ zs) ws l l'
      by (Minimum p) zs ws l l' = (both_plain n m).cut (Minimum p ∷ zs) ws l l'
      by (MinimumLong p) zs ws l l' = (both_plain n m).cut (MinimumLong p ∷ zs) ws l l'
      by (Punct p o) zs ws l l' = (both_plain n m).cut (Punct p o ∷ zs) ws l l'

  pub both_effect : (n m : ℕ) → CutBoth n m (suc k) (effect_by b) (effect_by c)
  unfolding effect_by
  both_effect n m = cut_then _ _ (both_expr k b c h names n m) (λ r. cut_case (is_effect r.0) (cut_done r.1) cut_none)

  pub both_effects_up_to : (n m : ℕ) → CutBoth (suc n) (suc m) (suc k) (effects_up_to b n) (effects_up_to c m)
  unfolding effects_up_to
  both_effects_up_to = all_turns (effects_up_to b) (effects_up_to c) (λ xs. omega arith) (λ xs. omega arith) (λ n m more.
      cut_then _ _ (both_effect _ _) (λ x. cut_if (starts comma) (first_mark _) (cut_turn (cut_map (λ (es : ExprTrees). t.exprs x es) more)) (cut_done (t.exprs x t.no_exprs))))

  pub both_effects : (n m : ℕ) → CutBoth n m (suc k) (effects_by b) (effects_by c)
  unfolding effects_by
  both_effects n m = turns_of (effects_up_to b) (effects_up_to c) both_effects_up_to

  -- where a declaration could begin, and does not yet, local variables and effects are read to the end
  pub half_local : (i : Identifier) (xs : List Terminal) → IsHalfRead false (name_of (Ident i ∷ xs)) → Ends (local_by b (Ident i ∷ xs))
  unfolding local_by plain_by
  half_local i xs x = ends_bind (ty_of (Ident i ∷ xs)) _ (half_ty i xs x) (λ r. none_left _ ((cut_map (λ (vs : List VarTree). s.stmt r.at (s.local false r vs)) (both_vars 0 0)).front []))

  pub half_effect : (i : Identifier) (xs : List Terminal) → IsHalfRead false (name_of (Ident i ∷ xs)) → Ends (effect_by b (Ident i ∷ xs))
  unfolding effect_by
  half_effect i xs x = ends_bind (expr_of b (Ident i ∷ xs)) _ (ended_expr (half_expr b (h.expr 0 0).front i xs x)) (λ r. none_left _ ((cut_case {n = 0} {m = 0} {d = 0} (is_effect r.0) (cut_done r.1) cut_none).front []))

  -- what a `for` begins with
  abbrev first_local : Below → List Terminal → Reads StmtTrees
  first_local b xs = local_by b xs >>= λ r. Ok (s.stmts r.0 s.no_stmts, r.1)

  abbrev first_effects : Below → List Terminal → Reads StmtTrees
  first_effects b xs = effects_by b xs >>= λ r. Ok (effect_stmts r.0, r.1)

  half_effects : (i : Identifier) (xs : List Terminal) → IsHalfRead false (name_of (Ident i ∷ xs)) → Ends (effects_by b (Ident i ∷ xs))
  unfolding effects_by effects_up_to
  half_effects i xs x = ends_bind (effect_by b (Ident i ∷ xs)) _ (half_effect i xs x) (λ r. refl)

  pub both_first : (n m : ℕ) → CutBoth n m (suc k) (first_by b) (first_by c)
  unfolding first_by
  both_first n m = cut_if (starts semicolon) (first_mark _) (cut_done s.no_stmts)
      (cut_declares (first_local b) (first_local c) (first_effects b) (first_effects c) (cut_map (λ (x : StmtTree). s.stmts x s.no_stmts) (both_local n m)) (cut_map (λ (es : ExprTrees). effect_stmts es) (both_effects n m))
      (λ i xs x. (ends_bind (local_by b (Ident i ∷ xs)) _ (half_local i xs x) (λ r. refl), ends_bind (effects_by b (Ident i ∷ xs)) _ (half_effects i xs x) (λ r. refl))))

  pub both_optional : (n m : ℕ) → CutBoth n m (suc k) (optional_by b) (optional_by c)
  unfolding optional_by
  both_optional n m = cut_if (starts semicolon) (first_mark _) (cut_done None) (cut_map (λ (r : Parsed). Some r.1) (both_expr k b c h names n m))

  pub both_updates : (n m : ℕ) → CutBoth n m (suc k) (updates_by b) (updates_by c)
  unfolding updates_by
  both_updates n m = cut_if (starts paren_close) (first_mark _) (cut_done t.no_exprs) (both_effects n m)

  -- an expression behind a `(`
  abbrev paren_rest : Below → List Terminal → Reads ExprTree
  paren_rest b ys = expr_of b ys >>= λ r. closed paren_close r.0.1 r.1

  pub both_paren : (n m : ℕ) → CutBoth n m (suc k) (paren_by b) (paren_by c)
  unfolding paren_by
  both_paren n m = cut_behind_test (starts paren_open) (first_mark _) (paren_rest b) (paren_rest c) (cut_then _ _ (both_expr k b c h names n m) (λ r. cut_mark paren_close r.1))

  -- the head of a `for` behind its `(`, and behind each `;`
  abbrev third : Below → StmtTrees → Option ExprTree → List Terminal → Reads ForHead
  third b r q ws = updates_by b ws >>= λ u. closed paren_close (record { first = r; condition = q; updates = u.0 }) u.1

  abbrev second : Below → StmtTrees → List Terminal → Reads ForHead
  second b r zs = optional_by b zs >>= λ q. behind semicolon q.1 >>= third b r q.0

  abbrev head : Below → List Terminal → Reads ForHead
  head b ys = first_by b ys >>= λ r. behind semicolon r.1 >>= second b r.0

  pub both_for_head : (n m : ℕ) → CutBoth n m (suc k) (for_head_by b) (for_head_by c)
  unfolding for_head_by
  both_for_head n m = cut_behind_test (starts paren_open) (first_mark _) (head b) (head c) (cut_then _ _ (both_first n m) (λ r.
      cut_behind_test (starts semicolon) (first_mark _) (second b r) (second c r) (cut_then _ _ (both_optional n m) (λ q.
      cut_behind_test (starts semicolon) (first_mark _) (third b r q) (third c r q) (cut_then _ _ (both_updates n m) (λ u. cut_mark paren_close (record { first = r; condition = q; updates = u })))))))
