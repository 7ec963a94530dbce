-- Reading a front of terminals against reading them all: fields, methods and constructors.
use Rattle.std.proofs.Common.{◌≡◌, ℕ, suc, ◌<◌, ◌≤◌, ◌&&◌, not, Bool, true, false, cond, nat_eq, List, [], ◌∷◌, ◌++◌, length, arith, refl, sym, subst, Option, None, Some, Ok, if◌then◌else◌}
use borrow.Author.Tests.{eqb-true}
use Rattle.jv_tree.specs.declared.name.Ident.{Ident as Identifier}
use Rattle.jv_tree.specs.TypeTree.{void, TypeTree}
use Rattle.jv_tree.specs.ExprTree.{ExprTrees}
use Rattle.jv_tree.specs.StmtTree.{VarTree, StmtTrees}
use Rattle.jv_tree.specs.DeclTree as d
use Rattle.jv_tree.specs.DeclTree.{ParamTree, MemberTree}
use Rattle.jv_grammar.specs.declared.terminal.Terminal.{Terminal}
use Rattle.jv_grammar.specs.declared.terminal.Terminal.TheVariants.{Ident, Keyword, Literal, Minimum, MinimumLong, Punct}
use Rattle.jv_grammar.specs.Marks.{paren_open, brace_open, brace_close, semicolon, comma, equals_sign, word_super, word_void}
use Rattle.jv_grammar.specs.TypeGrammar.{is_mark, starts}
use Rattle.jv_grammar.specs.Reader.{Reads, ◌>>=◌, closed}
use Rattle.jv_grammar.specs.TypeReader.{name_of, base_of, pairs_of, ty_of, declares}
use Rattle.jv_grammar.specs.ExprReader.{args_of, init_of, head_of, primary_of, post_of, unary_of, bin_of, cond_of, expr_of, below}
use Rattle.jv_grammar.specs.StmtReader.{var_by, vars_up_to, vars_by, effect_by, effect_stmt_by, word_by, stmt_by, bstmt_by, bstmts_up_to, bstmts_by, below_stmt, block_of, bstmts_of}
use Rattle.jv_grammar.specs.DeclReader.{calls, params_of, constants_of, fields_in, body_of, field_of, method_of, typed_of, plain_of, call_of, inner_of, ctor_of}
use Rattle.jv_grammar.proofs.Ending.{left_of, Ends, IsShort}
use Rattle.jv_grammar.proofs.Cut.{left_bind}
use Rattle.jv_grammar.proofs.CutBoth.{IsCutUnless, both_end, CutBoth, looser, ended, from_first, short_if, cut_choice, cut_then, cut_done, cut_none, cut_map, cut_turn, cut_next, cut_if, cut_mark}
use Rattle.jv_grammar.proofs.CutTurns.{all_turns, turns_of}
use Rattle.jv_grammar.proofs.CutTypes.{first_mark, both_ty}
use Rattle.jv_grammar.proofs.CutLists.{both_args}
use Rattle.jv_grammar.proofs.CutBelow.{both_below, names_below, both_init}
use Rattle.jv_grammar.proofs.CutForms.{both_ident}
use Rattle.jv_grammar.proofs.CutLocals.{both_vars}
use Rattle.jv_grammar.proofs.CutStmt.{both_below_stmt, both_block, both_bstmts, bstmt_takes}
use Rattle.jv_grammar.proofs.CutParts.{both_params}

-- an identifier with a `(` behind it begins one thing, and what else stands there another
pub cut_calls : {A : Type 0} {n m d : ℕ} (p q p' q' : List Terminal → Reads A) → CutBoth n m d p q → CutBoth n m d p' q' → ((i : Identifier) → Ends (p' (Ident i ∷ [])))
    → ((i : Identifier) (ws : List Terminal) → length (left_of (q (Ident i ∷ ws))) ≤ length ws) → CutBoth n m d (λ xs. if calls xs then p xs else p' xs) (λ xs. if calls xs then q xs else q' xs)
cut_calls {A} {n} {m} {d} p q p' q' c c' e s = from_first (λ xs. cond (calls xs) (p xs) (p' xs)) (λ xs. cond (calls xs) (q xs) (q' xs))
    (λ xs. short_if (calls xs) (p xs) (p' xs) xs (c.front xs) (c'.front xs)) (λ xs. short_if (calls xs) (q xs) (q' xs) xs (c.whole xs) (c'.whole xs)) by
  where
    by : (z : Terminal) (zs ws : List Terminal) → suc (length zs) < n → suc (length (zs ++ ws)) < m
        → IsCutUnless (d < suc (length (zs ++ ws))) ws (cond (calls (z ∷ zs)) (p (z ∷ zs)) (p' (z ∷ zs))) (cond (calls (z ∷ zs ++ ws)) (q (z ∷ zs ++ ws)) (q' (z ∷ zs ++ ws)))
    by (Ident i) [] ws l l' = both_end (e i) (short_if (starts paren_open ws) (q (Ident i ∷ ws)) (q' (Ident i ∷ ws)) ws (s i ws) (ended (c'.cut (Ident i ∷ []) ws l l') (e i)))
    by (Ident i) (z ∷ zs) ws l l' = cut_choice (is_mark paren_open z) (c.cut (Ident i ∷ z ∷ zs) ws l l') (c'.cut (Ident i ∷ z ∷ zs) ws l l')
    by (Keyword p k) zs ws l l' = c'.cut (Keyword p k ∷ zs) ws l l'
    by (Literal p v) zs ws l l' = c'.cut (Literal p v ∷ zs) ws l l'
    by (Minimum p) zs ws l l' = c'.cut (Minimum p ∷ zs) ws l l'
    by (MinimumLong p) zs ws l l' = c'.cut (MinimumLong p ∷ zs) ws l l'
    by (Punct p o) zs ws l l' = c'.cut (Punct p o ∷ zs) ws l l'

plain_short : (i : Bool) (n : ℕ) (ks : List ℕ) → ((r : TypeTree) → IsShort (method_of n ks r)) → IsShort (typed_of i n ks) → IsShort (plain_of i n ks)
unfolding plain_of
plain_short i n ks s s' [] = s' []
plain_short i n ks s s' (Keyword p v ∷ xs) = short_if (nat_eq v word_void) (method_of n ks (record { at = p; base = void; dims = 0 }) xs) (typed_of i n ks (Keyword p v ∷ xs)) (Keyword p v ∷ xs)
    (let l = s (record { at = p; base = void; dims = 0 }) xs in omega (arith, l)) (s' (Keyword p v ∷ xs))
plain_short i n ks s s' (x ∷ xs) = s' (x ∷ xs)

-- an identifier alone is a field of which more is asked
field_ends : (n : ℕ) (f : Bool) (ks : List ℕ) (r : TypeTree) (x : Identifier) → Ends (field_of f n ks r (Ident x ∷ []))
unfolding field_of constants_of vars_by vars_up_to var_by
field_ends n true ks r x = refl
field_ends n false ks r x = refl

-- and a type of a member, of which more is asked
plain_ends : (n : ℕ) (ks : List ℕ) (x : Identifier) → Ends (plain_of false n ks (Ident x ∷ []))
unfolding plain_of typed_of ty_of base_of name_of pairs_of field_of vars_by vars_up_to
plain_ends n ks x = refl

-- the statements of a constructor behind its call, and the call behind `super`
abbrev behind_call : ℕ → Option (ℕ × ExprTrees) × List Terminal → Reads (Option (ℕ × ExprTrees) × StmtTrees)
behind_call n c = bstmts_of n c.1 >>= λ s. closed brace_close (c.0, s.0) s.1

abbrev super_call : ℕ → ℕ → List Terminal → Reads (Option (ℕ × ExprTrees))
super_call n p xs = args_of (below n).expr xs >>= λ r. closed semicolon (Some (p, r.0)) r.1

abbrev in_ctor : ℕ → List Terminal → Reads (Option (ℕ × ExprTrees) × StmtTrees)
in_ctor n xs = call_of n xs >>= behind_call n

-- `super` alone is an expression of which more is asked
super_ends : (n p : ℕ) → Ends (behind_call n (None, Keyword p word_super ∷ []))
unfolding bstmts_by bstmts_up_to bstmt_by declares stmt_by word_by effect_stmt_by effect_by expr_of cond_of bin_of unary_of post_of primary_of head_of
super_ends n p = refl

call_short : (n : ℕ) → ((p : ℕ) → IsShort (super_call n p)) → IsShort (call_of n)
unfolding call_of
call_short n s [] = omega arith
call_short n s (Keyword p v ∷ xs) = short_if (nat_eq v word_super && starts paren_open xs) (super_call n p xs) (Ok (None, Keyword p v ∷ xs)) (Keyword p v ∷ xs) (let l = s p xs in omega (arith, l)) (omega arith)
call_short n s (Ident i ∷ xs) = omega arith
call_short n s (Literal p v ∷ xs) = omega arith
call_short n s (Minimum p ∷ xs) = omega arith
call_short n s (MinimumLong p ∷ xs) = omega arith
call_short n s (Punct p o ∷ xs) = omega arith

module _ (n m : ℕ) (l : n ≤ m) where
  both_init_at : (i j : ℕ) → CutBoth i j (suc n) (init_of (below n)) (init_of (below m))
  both_init_at = both_init n (below n) (below m) (both_below n m l) (names_below n)

  pub both_constants : (i j : ℕ) → CutBoth (suc i) (suc j) (suc n) (constants_of n i) (constants_of m j)
  unfolding constants_of
  both_constants = all_turns (constants_of n) (constants_of m) (λ xs. omega arith) (λ xs. omega arith) (λ i j more.
      cut_then _ _ (both_ident _ _ _) (λ x. cut_then _ _ (cut_mark equals_sign x) (λ y. cut_then _ _ (both_init_at _ _) (λ z. cut_if (starts comma) (first_mark _)
      (cut_turn (cut_map (λ (vs : List VarTree). record { name = y; init = Some z } ∷ vs) more)) (cut_done (record { name = y; init = Some z } ∷ []))))))

  both_vars_at : (i j : ℕ) → CutBoth i j (suc n) (vars_by (below n)) (vars_by (below m))
  both_vars_at = both_vars n (below n) (below m) (both_below n m l) (names_below n)

  pub both_fields : (f : Bool) (i j : ℕ) → CutBoth i j (suc n) (fields_in f n) (fields_in f m)
  both_fields true i j = turns_of (constants_of n) (constants_of m) both_constants
  both_fields false i j = both_vars_at i j

  both_block_at : (i j : ℕ) → CutBoth i j (suc n) (block_of n) (block_of m)
  both_block_at = both_block n (below n) (below m) (both_below n m l) (names_below n) (below_stmt n) (below_stmt m) (both_below_stmt n m l)

  both_bstmts_at : (i j : ℕ) → CutBoth i j (suc n) (bstmts_of n) (bstmts_of m)
  both_bstmts_at = both_bstmts n (below n) (below m) (both_below n m l) (names_below n) (below_stmt n) (below_stmt m) (both_below_stmt n m l) (bstmt_takes n)

  pub both_body : (i j : ℕ) → CutBoth i j (suc n) (body_of n) (body_of m)
  both_body i j = cut_if (starts semicolon) (first_mark _) (cut_next (cut_done None)) (cut_map (λ (x : ℕ × StmtTrees). Some x.1) (both_block_at i j))

  module _ (f : Bool) (ks : List ℕ) where
    pub both_field : (r : TypeTree) (i j : ℕ) → CutBoth i j (suc n) (field_of f n ks r) (field_of f m ks r)
    unfolding field_of
    both_field r i j = cut_then _ _ (both_fields f i j) (λ vs. cut_mark semicolon (d.field ks r vs))

    -- a method behind its name
    abbrev behind_name : ℕ → TypeTree → Identifier × List Terminal → Reads MemberTree
    behind_name n r j = params_of j.1 >>= λ q. body_of n q.1 >>= λ b. Ok (d.method (record { mods = ks; result = r; name = j.0; params = q.0; body = b.0 }), b.1)

    both_behind_name : (r : TypeTree) (x : Identifier) (i j : ℕ) → CutBoth i j (suc n) (λ us. behind_name n r (x, us)) (λ us. behind_name m r (x, us))
    both_behind_name r x i j = cut_then _ _ (both_params i j (suc n)) (λ ps. cut_map (λ (b : Option StmtTrees). d.method (record { mods = ks; result = r; name = x; params = ps; body = b })) (both_body i j))

    pub both_method : (r : TypeTree) (i j : ℕ) → CutBoth i j (suc n) (method_of n ks r) (method_of m ks r)
    unfolding method_of
    both_method r i j = cut_then (behind_name n r) (behind_name m r) (both_ident i j (suc n)) (λ x. both_behind_name r x i j)

    method_takes : (r : TypeTree) (x : Identifier) (ws : List Terminal) → length (left_of (method_of m ks r (Ident x ∷ ws))) ≤ length ws
    unfolding method_of
    method_takes r x ws = (both_behind_name r x 0 0).whole ws

    pub both_typed : (i j : ℕ) → CutBoth i j (suc n) (typed_of f n ks) (typed_of f m ks)
    unfolding typed_of
    both_typed i j = cut_then _ _ (both_ty i j (suc n)) (λ r. cut_calls (method_of n ks r) (method_of m ks r) (field_of f n ks r) (field_of f m ks r) (both_method r i j) (both_field r i j) (field_ends n f ks r) (method_takes r))

    pub both_plain : (i j : ℕ) → CutBoth i j (suc n) (plain_of f n ks) (plain_of f m ks)
    unfolding plain_of
    both_plain i j = from_first (plain_of f n ks) (plain_of f m ks) (plain_short f n ks (λ r. (both_method r 0 0).front) (both_typed 0 0).front) (plain_short f m ks (λ r. (both_method r 0 0).whole) (both_typed 0 0).whole) by
      where
        by : (z : Terminal) (zs ws : List Terminal) → suc (length zs) < i → suc (length (zs ++ ws)) < j → IsCutUnless (suc n < suc (length (zs ++ ws))) ws (plain_of f n ks (z ∷ zs)) (plain_of f m ks (z ∷ zs ++ ws))
        by (Keyword p v) zs ws s s' = cut_choice (nat_eq v word_void) (looser (λ h. omega arith) ((both_method (record { at = p; base = void; dims = 0 }) i j).cut zs ws (omega arith) (omega arith))) ((both_typed i j).cut (Keyword p v ∷ zs) ws s s')
        by (Ident x) zs ws s s' = (both_typed i j).cut (Ident x ∷ zs) ws s s'
        by (Literal p v) zs ws s s' = (both_typed i j).cut (Literal p v ∷ zs) ws s s'
        by (Minimum p) zs ws s s' = (both_typed i j).cut (Minimum p ∷ zs) ws s s'
        by (MinimumLong p) zs ws s s' = (both_typed i j).cut (MinimumLong p ∷ zs) ws s s'
        by (Punct p o) zs ws s s' = (both_typed i j).cut (Punct p o ∷ zs) ws s s'

  both_behind_call : (x : Option (ℕ × ExprTrees)) (i j : ℕ) → CutBoth i j (suc n) (λ us. behind_call n (x, us)) (λ us. behind_call m (x, us))
  both_behind_call x i j = cut_then _ _ (both_bstmts_at i j) (λ ss. cut_mark brace_close (x, ss))

  both_super_call : (p i j : ℕ) → CutBoth i j (suc n) (super_call n p) (super_call m p)
  both_super_call p i j = cut_then _ _ (both_args n (below n).expr (below m).expr (both_below n m l).expr i j) (λ es. cut_mark semicolon (Some (p, es)))

  -- the call and what stands behind it
  abbrev called : ℕ → ℕ → List Terminal → Reads (Option (ℕ × ExprTrees) × StmtTrees)
  called n p xs = super_call n p xs >>= behind_call n

  both_called : (p i j : ℕ) → CutBoth i j (suc n) (called n p) (called m p)
  both_called p i j = cut_then (behind_call n) (behind_call m) (both_super_call p i j) (λ x. both_behind_call x i j)

  -- no call
  uncalled : (z : Terminal) (zs ws : List Terminal) → IsCutUnless (suc n < suc (length (zs ++ ws))) ws (behind_call n (None, z ∷ zs)) (behind_call m (None, z ∷ zs ++ ws))
  uncalled z zs ws = (both_behind_call None (suc (suc (length zs))) (suc (suc (length (zs ++ ws))))).cut (z ∷ zs) ws (omega arith) (omega arith)

  abbrev either_call : ℕ → ℕ → ℕ → Bool → List Terminal → Reads (Option (ℕ × ExprTrees) × StmtTrees)
  either_call n p v u xs = cond u (super_call n p xs) (Ok (None, Keyword p v ∷ xs)) >>= behind_call n

  alone_call : (p v : ℕ) (ws : List Terminal) (u : Bool) → nat_eq v word_super ≡ u → IsCutUnless (suc n < suc (length ws)) ws (either_call n p v (u && false) []) (either_call m p v (u && starts paren_open ws) ws)
  alone_call p v ws false e = uncalled (Keyword p v) [] ws
  alone_call p v ws true e = both_end end (by (starts paren_open ws))
    where
      end : Ends (behind_call n (None, Keyword p v ∷ []))
      end = subst (λ z. Ends (behind_call n (None, Keyword p z ∷ []))) (sym (eqb-true v word_super e)) (super_ends n p)

      by : (u : Bool) → length (left_of (either_call m p v u ws)) ≤ length ws
      by true = (both_called p 0 0).whole ws
      by false = ended (uncalled (Keyword p v) [] ws) end

  some_call : (p v : ℕ) (zs ws : List Terminal) (u : Bool) → IsCutUnless (suc n < suc (length (zs ++ ws))) ws (either_call n p v u zs) (either_call m p v u (zs ++ ws))
  some_call p v zs ws true = looser (λ h. omega arith) ((both_called p (suc (length zs)) (suc (length (zs ++ ws)))).cut zs ws (omega arith) (omega arith))
  some_call p v zs ws false = uncalled (Keyword p v) zs ws

  both_in_ctor : (i j : ℕ) → CutBoth i j (suc n) (in_ctor n) (in_ctor m)
  unfolding call_of
  both_in_ctor i j = from_first (in_ctor n) (in_ctor m)
      (λ xs. omega (arith, call_short n (λ p. (both_super_call p 0 0).front) xs, left_bind (call_of n xs) (behind_call n) (λ x. (both_behind_call x 0 0).front)))
      (λ xs. omega (arith, call_short m (λ p. (both_super_call p 0 0).whole) xs, left_bind (call_of m xs) (behind_call m) (λ x. (both_behind_call x 0 0).whole))) by
    where
      by : (z : Terminal) (zs ws : List Terminal) → suc (length zs) < i → suc (length (zs ++ ws)) < j → IsCutUnless (suc n < suc (length (zs ++ ws))) ws (in_ctor n (z ∷ zs)) (in_ctor m (z ∷ zs ++ ws))
      by (Keyword p v) [] ws s s' = alone_call p v ws (nat_eq v word_super) refl
      by (Keyword p v) (z ∷ zs) ws s s' = some_call p v (z ∷ zs) ws (nat_eq v word_super && is_mark paren_open z)
      by (Ident x) zs ws s s' = uncalled (Ident x) zs ws
      by (Literal p v) zs ws s s' = uncalled (Literal p v) zs ws
      by (Minimum p) zs ws s s' = uncalled (Minimum p) zs ws
      by (MinimumLong p) zs ws s s' = uncalled (MinimumLong p) zs ws
      by (Punct p o) zs ws s s' = uncalled (Punct p o) zs ws

  pub both_inner : (i j : ℕ) → CutBoth i j (suc n) (inner_of n) (inner_of m)
  unfolding inner_of
  both_inner i j = cut_if (starts brace_open) (first_mark _) (cut_next {p = in_ctor n} {q = in_ctor m} (both_in_ctor i j)) cut_none

  module _ (ks : List ℕ) where
    -- a constructor behind its name
    abbrev ctor_rest : ℕ → Identifier × List Terminal → Reads MemberTree
    ctor_rest n j = params_of j.1 >>= λ q. inner_of n q.1 >>= λ b. Ok (d.ctor (record { mods = ks; name = j.0; params = q.0; call = b.0.0; body = b.0.1 }), b.1)

    both_ctor_rest : (x : Identifier) (i j : ℕ) → CutBoth i j (suc n) (λ us. ctor_rest n (x, us)) (λ us. ctor_rest m (x, us))
    both_ctor_rest x i j = cut_then _ _ (both_params i j (suc n)) (λ ps. cut_map (λ (b : Option (ℕ × ExprTrees) × StmtTrees). d.ctor (record { mods = ks; name = x; params = ps; call = b.0; body = b.1 })) (both_inner i j))

    pub both_ctor : (i j : ℕ) → CutBoth i j (suc n) (ctor_of n ks) (ctor_of m ks)
    unfolding ctor_of
    both_ctor i j = cut_then (ctor_rest n) (ctor_rest m) (both_ident i j (suc n)) (λ x. both_ctor_rest x i j)

    ctor_takes : (x : Identifier) (ws : List Terminal) → length (left_of (ctor_of m ks (Ident x ∷ ws))) ≤ length ws
    unfolding ctor_of
    ctor_takes x ws = (both_ctor_rest x 0 0).whole ws

    -- an interface has no constructors
    pub both_ctor_or : (f : Bool) (i j : ℕ) → CutBoth i j (suc n) (λ xs. if not f && calls xs then ctor_of n ks xs else plain_of f n ks xs) (λ xs. if not f && calls xs then ctor_of m ks xs else plain_of f m ks xs)
    both_ctor_or true i j = both_plain true ks i j
    both_ctor_or false i j = cut_calls (ctor_of n ks) (ctor_of m ks) (plain_of false n ks) (plain_of false m ks) (both_ctor i j) (both_plain false ks i j) (plain_ends n ks) ctor_takes
