-- Reading a front of terminals against reading them all: expressions and initializers, at each depth of nesting.
use Rattle.std.proofs.Common.{◌≡◌, ℕ, suc, ◌<◌, ◌&&◌, Bool, true, false, cond, nat_eq, List, [], ◌∷◌, ◌++◌, length, arith, refl, sym, subst, Ok}
use Rattle.std.specs.List.{list_any}
use borrow.Author.Tests.{eqb-true}
use Rattle.jv_tree.specs.ExprTree as t
use Rattle.jv_tree.specs.ExprTree.{ExprTree, InitTree, InitTrees, LinkTrees}
use Rattle.jv_tree.specs.Shaped.{levels, instance_of, postfix_operators}
use Rattle.jv_grammar.specs.declared.terminal.Terminal.{Terminal}
use Rattle.jv_grammar.specs.declared.terminal.Terminal.TheVariants.{Ident, Keyword, Literal, Minimum, MinimumLong, Punct}
use Rattle.jv_grammar.specs.declared.form.Form.TheVariants.{Effect, Other}
use Rattle.jv_grammar.specs.Marks.{paren_open, question_mark, colon, signs, word_instanceof}
use Rattle.jv_grammar.specs.TypeGrammar.{starts}
use Rattle.jv_grammar.specs.ExprGrammar.{at_of}
use Rattle.jv_grammar.specs.Reader.{Reads, ◌>>=◌, closed}
use Rattle.jv_grammar.specs.TypeReader.{reference_of}
use Rattle.jv_grammar.specs.ExprReader.{Parsed, Below, post_of, cast_ahead, cast_of, signed_of, unary_of, is_mark_of, links_of, chained, bin_of, cond_of}
use Rattle.jv_grammar.proofs.Ending.{IsShort}
use Rattle.jv_grammar.proofs.CutBoth.{IsCutUnless, both_give, CutBoth, looser, from_first, short_if, cut_choice, cut_then, cut_then_turns, cut_done, cut_map, cut_under, cut_if, cut_mark}
use Rattle.jv_grammar.proofs.CutTurns.{all_long_turns}
use Rattle.jv_grammar.proofs.CutTypes.{first_mark, both_reference}
use Rattle.jv_grammar.proofs.CutHeads.{BelowBoth}
use Rattle.jv_grammar.proofs.CutUnary.{ReadsNames, both_post, both_cast, both_signed, both_open}

-- an operand behind `++` or `--`
abbrev stepping : Below → ℕ → ℕ → List Terminal → Reads Parsed
stepping b p o xs = b.unary xs >>= λ r. Ok ((Effect, t.expr p (t.pre p o r.0.1)), r.1)

-- what stands behind an operator of a level, and behind `instanceof`
abbrev operand_link : (List Terminal → Reads Parsed) → List ℕ → ℕ → ℕ → ℕ → List Terminal → Reads LinkTrees
operand_link r level n p o xs = r xs >>= λ x. links_of r level n x.1 >>= λ s. Ok (t.links p o (t.operand x.0.1) s.0, s.1)

abbrev type_link : (List Terminal → Reads Parsed) → List ℕ → ℕ → ℕ → List Terminal → Reads LinkTrees
type_link r level n p xs = reference_of xs >>= λ x. links_of r level n x.1 >>= λ s. Ok (t.links p instance_of (t.of_type x.0) s.0, s.1)

-- the links behind an operand, and the choice behind a condition
abbrev linked : (List Terminal → Reads Parsed) → List ℕ → Parsed → ℕ → List Terminal → Reads Parsed
linked r level x n xs = links_of r level n xs >>= λ s. Ok (chained x s.0, s.1)

abbrev choice : Below → Parsed → List Terminal → Reads Parsed
choice b x xs = b.expr xs >>= λ s. closed colon s.0.1 s.1 >>= λ u. b.cond u.1 >>= λ v. Ok ((Other, t.expr (at_of x.1) (t.choice x.1 u.0 v.0.1)), v.1)

module _ (k : ℕ) (b c : Below) (h : BelowBoth k b c) where
  both_stepping : (p o n m : ℕ) → CutBoth n m k (stepping b p o) (stepping c p o)
  both_stepping p o n m = cut_map (λ (u : Parsed). (Effect, t.expr p (t.pre p o u.1))) (h.unary n m)

  short_unary : (b : Below) → IsShort (post_of b) → ((p o : ℕ) → IsShort (stepping b p o)) → ((p o : ℕ) → IsShort (signed_of b p o)) → ((p : ℕ) → IsShort (cast_of b p)) → IsShort (unary_of b)
  unfolding unary_of
  short_unary b s s' s'' s''' [] = s []
  short_unary b s s' s'' s''' (Punct p o ∷ xs) =
      short_if (list_any (nat_eq o) postfix_operators) (stepping b p o xs) _ (Punct p o ∷ xs) (let l = s' p o xs in omega (arith, l))
      (short_if (list_any (nat_eq o) signs) (signed_of b p o xs) _ (Punct p o ∷ xs) (let l = s'' p o xs in omega (arith, l))
      (short_if (nat_eq o paren_open && cast_ahead xs) (cast_of b p xs) (post_of b (Punct p o ∷ xs)) (Punct p o ∷ xs) (let l = s''' p xs in omega (arith, l)) (s (Punct p o ∷ xs))))
  short_unary b s s' s'' s''' (x ∷ xs) = s (x ∷ xs)

  module _ (level : List ℕ) (p q : List Terminal → Reads Parsed) (o : (n m : ℕ) → CutBoth n m (suc k) p q) where
    both_operand : (n m s v : ℕ) → CutBoth n m (suc k) (links_of p level n) (links_of q level m) → CutBoth n m (suc k) (operand_link p level n s v) (operand_link q level m s v)
    both_operand n m s v more = cut_then _ _ (o n m) (λ x. cut_map (λ (ls : LinkTrees). t.links s v (t.operand x.1) ls) more)

    both_type : (n m s : ℕ) → CutBoth n m (suc k) (links_of p level n) (links_of q level m) → CutBoth n m (suc k) (type_link p level n s) (type_link q level m s)
    both_type n m s more = cut_then _ _ (both_reference n m (suc k)) (λ x. cut_map (λ (ls : LinkTrees). t.links s instance_of (t.of_type x) ls) more)

  links_short : (level : List ℕ) (p : List Terminal → Reads Parsed) (n : ℕ) → ((s v : ℕ) → IsShort (operand_link p level n s v)) → ((s : ℕ) → IsShort (type_link p level n s)) → IsShort (links_of p level (suc n))
  unfolding links_of
  links_short level p n s s' [] = omega arith
  links_short level p n s s' (Punct i o ∷ xs) = short_if (is_mark_of level o) (operand_link p level n i o xs) (Ok (t.no_links, Punct i o ∷ xs)) (Punct i o ∷ xs) (let l = s i o xs in omega (arith, l)) (omega arith)
  links_short level p n s s' (Keyword i v ∷ xs) =
      short_if (nat_eq v word_instanceof && list_any (nat_eq instance_of) level) (type_link p level n i xs) (Ok (t.no_links, Keyword i v ∷ xs)) (Keyword i v ∷ xs) (let l = s' i xs in omega (arith, l)) (omega arith)
  links_short level p n s s' (x ∷ xs) = omega arith

  module _ (level : List ℕ) (p q : List Terminal → Reads Parsed) (o : (n m : ℕ) → CutBoth n m (suc k) p q) where
    pub both_links : (n m : ℕ) → CutBoth n m (suc k) (links_of p level n) (links_of q level m)
    unfolding links_of
    both_links = all_long_turns (links_of p level) (links_of q level) (λ xs. omega arith) (λ xs. omega arith) turn
      where
        turn : (n m : ℕ) → CutBoth n m (suc k) (links_of p level n) (links_of q level m) → CutBoth (suc n) (suc m) (suc k) (links_of p level (suc n)) (links_of q level (suc m))
        turn n m more = from_first (links_of p level (suc n)) (links_of q level (suc m))
            (links_short level p n (λ s v. (both_operand level p q o n m s v more).front) (λ s. (both_type level p q o n m s more).front))
            (links_short level q m (λ s v. (both_operand level p q o n m s v more).whole) (λ s. (both_type level p q o n m s more).whole)) by
          where
            by : (z : Terminal) (zs ws : List Terminal) → suc (length zs) < suc n → suc (length (zs ++ ws)) < suc m
                → IsCutUnless (suc k < suc (length (zs ++ ws))) ws (links_of p level (suc n) (z ∷ zs)) (links_of q level (suc m) (z ∷ zs ++ ws))
            by (Punct i v) zs ws l l' = cut_choice (is_mark_of level v) (looser (λ d. omega arith) ((both_operand level p q o n m i v more).cut zs ws (omega arith) (omega arith))) both_give
            by (Keyword i v) zs ws l l' = cut_choice (nat_eq v word_instanceof && list_any (nat_eq instance_of) level) (looser (λ d. omega arith) ((both_type level p q o n m i more).cut zs ws (omega arith) (omega arith))) both_give
            by (Ident i) zs ws l l' = both_give
            by (Literal i v) zs ws l l' = both_give
            by (Minimum i) zs ws l l' = both_give
            by (MinimumLong i) zs ws l l' = both_give

  module _ (names : ReadsNames k b) where
    -- behind a mark that may be a `(`
    at_open : (p o : ℕ) (zs ws : List Terminal) (u : Bool) → nat_eq o paren_open ≡ u
        → IsCutUnless (suc k < suc (length (zs ++ ws))) ws (cond (u && cast_ahead zs) (cast_of b p zs) (post_of b (Punct p o ∷ zs))) (cond (u && cast_ahead (zs ++ ws)) (cast_of c p (zs ++ ws)) (post_of c (Punct p o ∷ zs ++ ws)))
    at_open p o zs ws true e = subst (λ v. IsCutUnless (suc k < suc (length (zs ++ ws))) ws (cond (cast_ahead zs) (cast_of b p zs) (post_of b (Punct p v ∷ zs))) (cond (cast_ahead (zs ++ ws)) (cast_of c p (zs ++ ws)) (post_of c (Punct p v ∷ zs ++ ws))))
        (sym (eqb-true o paren_open e)) (both_open k b c h names p zs ws)
    at_open p o zs ws false e = (both_post k b c h (suc (suc (length zs))) (suc (suc (length (zs ++ ws))))).cut (Punct p o ∷ zs) ws (omega arith) (omega arith)

    pub both_unary : (n m : ℕ) → CutBoth n m (suc k) (unary_of b) (unary_of c)
    unfolding unary_of
    both_unary n m = from_first (unary_of b) (unary_of c)
        (short_unary b (both_post k b c h 0 0).front (λ p o. (both_stepping p o 0 0).front) (λ p o. (both_signed k b c h p o 0 0).front) (λ p. (both_cast k b c h p 0 0).front))
        (short_unary c (both_post k b c h 0 0).whole (λ p o. (both_stepping p o 0 0).whole) (λ p o. (both_signed k b c h p o 0 0).whole) (λ p. (both_cast k b c h p 0 0).whole)) by
      where
        by : (z : Terminal) (zs ws : List Terminal) → suc (length zs) < n → suc (length (zs ++ ws)) < m → IsCutUnless (suc k < suc (length (zs ++ ws))) ws (unary_of b (z ∷ zs)) (unary_of c (z ∷ zs ++ ws))
        by (Punct p o) zs ws l l' =
            cut_choice (list_any (nat_eq o) postfix_operators) (looser (λ d. omega arith) ((both_stepping p o n m).cut zs ws (omega arith) (omega arith)))
            (cut_choice (list_any (nat_eq o) signs) (looser (λ d. omega arith) ((both_signed k b c h p o n m).cut zs ws (omega arith) (omega arith)))
            (at_open p o zs ws (nat_eq o paren_open) refl))
        by (Ident i) zs ws l l' = (both_post k b c h n m).cut (Ident i ∷ zs) ws l l'
        by (Keyword q v) zs ws l l' = (both_post k b c h n m).cut (Keyword q v ∷ zs) ws l l'
        by (Literal q v) zs ws l l' = (both_post k b c h n m).cut (Literal q v ∷ zs) ws l l'
        by (Minimum q) zs ws l l' = (both_post k b c h n m).cut (Minimum q ∷ zs) ws l l'
        by (MinimumLong q) zs ws l l' = (both_post k b c h n m).cut (MinimumLong q ∷ zs) ws l l'

    pub both_bin : (ls : List (List ℕ)) (n m : ℕ) → CutBoth n m (suc k) (bin_of b ls) (bin_of c ls)
    unfolding bin_of
    both_bin [] n m = both_unary n m
    both_bin (level ∷ ls) n m = cut_then_turns (linked (bin_of b ls) level) (linked (bin_of c ls) level) (both_bin ls n m)
        (λ x i j. cut_map (λ s. chained x s) (both_links level (bin_of b ls) (bin_of c ls) (both_bin ls) i j))

    pub both_cond : (n m : ℕ) → CutBoth n m (suc k) (cond_of b) (cond_of c)
    unfolding cond_of
    both_cond n m = cut_then _ _ (both_bin levels n m) (λ x. cut_if (starts question_mark) (first_mark _)
        (cut_under {p = choice b x} {q = choice c x} (cut_then _ _ (h.expr n m) (λ y. cut_then _ _ (cut_mark colon y.1) (λ u. cut_map (λ (v : Parsed). (Other, t.expr (at_of x.1) (t.choice x.1 u v.1))) (h.cond n m)))))
        (cut_done x))
